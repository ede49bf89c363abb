use Rattle.std.proofs.Common.{◌≡◌, ◌∙◌, ◌-◌, ◌<◌, ap, arith, get_or, length, take}
use Rattle.std.proofs.lemmas.List.{get_or_default}
use Rattle.source_items.specs.Values.{total}
use Rattle.source_code.proofs.TotalLemmas.{totals_beyond}
use Rattle.source_code.proofs.behind.Behind.beyond.Goals as goal

pub returns : goal.returns
returns c =
    let few : c.args.count < length c.self.inside.totals.items = omega (arith, c.if-count-len.false, c.len-len.ensures) in
    let place : c.len-len.result - c.args.count - 1 ≡ length c.self.inside.totals.items - c.args.count - 1 = omega (arith, c.len-len.ensures) in
    let found : c.index.result.now ≡ get_or c.self.inside.totals.items (length c.self.inside.totals.items - c.args.count - 1) 0 =
    c.index.ensures
    ∙ get_or_default c.self.inside.totals.items (c.len-len.result - c.args.count - 1) c.index.result.now 0 (omega (arith, place, few))
    ∙ ap (λ k. get_or c.self.inside.totals.items k 0) place in
    omega (
      arith,
      found,
      totals_beyond c.self.inside.lengths.items c.self.inside.totals.items c.args.count c.self.invariant few,
      ap (λ l. total (take c.args.count l)) c.self.view_is,
      ap total c.self.view_is,
    )
