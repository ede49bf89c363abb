use Rattle.std.proofs.Common.{◌-◌, ◌<◌, ◌∙◌, ap, arith, length, get_or}
use Rattle.source_code.proofs.TotalLemmas.{totals_last, totals_most}
use Rattle.source_items.specs.Values.{total}
use Rattle.source_code.proofs.behind.Behind.total.Goals as goal

pub returns-in-Some-clause-value : goal.returns-in-Some-clause-value
returns-in-Some-clause-value c =
    let some : 0 < length c.self.inside.totals.items = omega (arith, c.in-Some.ensures.item.3.0, ap length c.deref.ensures.value) in
    c.in-Some.ensures.item.3.1 0
    ∙ ap (λ l. get_or l (length l - 1) 0) c.deref.ensures.value
    ∙ totals_last c.self.inside.lengths.items c.self.inside.totals.items c.self.invariant some
    ∙ ap total c.self.view_is

pub returns-in-Some-clause-most : goal.returns-in-Some-clause-most
returns-in-Some-clause-most c =
    omega (arith, returns-in-Some-clause-value c, totals_most c.self.inside.lengths.items c.self.inside.totals.items c.self.invariant, ap total c.self.view_is, ap length c.deref.ensures.value, c.deref.type_inv)
