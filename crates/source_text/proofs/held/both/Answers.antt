use Rattle.std.proofs.Common.{refl}
use Rattle.source_text.proofs.PieceLemmas.{held_both}
use Rattle.source_text.proofs.held.both.Goals as goal

pub returns : goal.returns
returns c x y first second =
    held_both c.args.limit c.held_sum-count.result c.args.a c.args.b (record { items = c.in_ok-items.items; count = c.held_sum-count.result; bases = c.are_both-bases.result; measure = c.in_ok-measure.measure }) x y
    c.requires first second c.held_sum-count.ensures c.in_ok-items.ensures refl c.are_both-bases.ensures (c.in_ok-measure.ensures x y first.measured second.measured)
