use Rattle.std.proofs.Common.{◌∙◌, [], ap, refl}
use Rattle.std.specs.Prelude.{if◌then◌else◌, nat_le}
use Rattle.source_text.specs.Pieces.{times}
use Rattle.source_text.proofs.PieceLemmas.{held_times}
use Rattle.source_text.proofs.held.repeated.Goals as goal

pub returns : goal.returns
returns c x is =
    held_times c.args.limit c.args.n c.held_product-count.result c.args.part.now (record { items = c.in_ok-items.items; count = c.held_product-count.result; bases = c.are_all-bases.result; measure = c.in_ok-measure.measure }) x
    c.requires is c.held_product-count.ensures
    (c.in_ok-items.ensures ∙ ap (λ p. if nat_le c.held_product-count.result c.args.limit then times c.args.n p else []) c.as_slice.ensures.value) refl c.are_all-bases.ensures
    (c.in_ok-measure.ensures x is.measured)
