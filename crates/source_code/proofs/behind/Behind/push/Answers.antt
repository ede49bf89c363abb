use Rattle.std.proofs.Common.{◌≡◌, ◌+◌, ap, arith}
use Rattle.source_items.specs.Values.{total}
use Rattle.source_code.proofs.TotalLemmas.{total-reverse, totals_more}
use Rattle.source_code.proofs.behind.Behind.push.Goals as goal

pub invariant_of-self-2 : goal.invariant_of-self-2
invariant_of-self-2 c =
    let sum : c.total.result + c.from.result ≡ total c.self.inside.lengths.items + c.args.len =
    omega (arith, c.total.ensures.value, c.from.ensures, ap total c.self.view_is, total-reverse c.self.inside.lengths.items) in
    rw (c.push_reserved.ensures.items, c.push_reserved-2.ensures.items, c.in_ok-reserve.ensures.items, c.in_ok-reserve-2.ensures.items)
    (totals_more c.self.inside.lengths.items c.self.inside.totals.items c.args.len (c.total.result + c.from.result) c.self.invariant c.requires sum)
