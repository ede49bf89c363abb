use Rattle.std.proofs.Common.{◌++◌, ◌∙◌, [], ap, refl, subst}
use Rattle.std.specs.Prelude.{if◌then◌else◌, nat_le}
use Rattle.source_text.specs.Measured.{IsMeasured}
use Rattle.source_text.proofs.MeasureLemmas.{times_once}
use Rattle.source_text.proofs.PieceLemmas.{held_both}
use Rattle.source_text.proofs.held.both_copied.Goals as goal

pub returns : goal.returns
returns c x y first second =
    let copied : IsMeasured c.in_ok-repeated.field-0 y = subst (IsMeasured c.in_ok-repeated.field-0) (times_once y) (c.in_ok-repeated.ensures y second.measured) in
    held_both c.args.limit c.held_sum-count.result c.args.a c.args.b.now (record { items = c.in_ok-items.items; count = c.held_sum-count.result; bases = c.are_both-bases.result; measure = c.in_ok-measure.measure }) x y
    c.requires first second c.held_sum-count.ensures
    (c.in_ok-items.ensures ∙ ap (λ l. if nat_le c.held_sum-count.result c.args.limit then c.args.a.items.items ++ l else []) c.as_slice.ensures.value) refl c.are_both-bases.ensures
    (c.in_ok-measure.ensures x y first.measured copied)
