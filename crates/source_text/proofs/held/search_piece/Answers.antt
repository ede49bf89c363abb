use Rattle.std.proofs.Common.{◌∙◌, ap, false, refl, sym}
use Rattle.source_text.specs.Pieces.{bases_of}
use Rattle.source_text.proofs.PieceLemmas.{held_search}
use Rattle.source_text.proofs.held.search_piece.Goals as goal

pub returns : goal.returns
returns c x is =
    held_search c.args.limit c.args.at c.held_sum-count.result c.args.found.now (record { items = c.in_ok-items.items; count = c.held_sum-count.result; bases = false; measure = c.search.result }) x c.in_ok-bases.bases
    c.requires.low c.requires.bases is c.held_sum-count.ensures (c.in_ok-bases.ensures ∙ ap bases_of c.as_slice.ensures.value) c.in_ok-items.ensures refl refl
    (c.search.ensures x c.args.at (sym is.judged ∙ c.requires.bases) is.measured)
