use Rattle.std.proofs.Common.{◌-◌, length, get_or, arith, rules}
use Rattle.strand.proofs.Shifting.{first_candidate, next_candidate}
use Rattle.strand.proofs.shifts.next_shift.Goals as goal

pub loop-shift-init : goal.loop-shift-init
loop-shift-init c =
    let last = length c.args.shifts.now - 1 in
    first_candidate c.args.needle.now last (get_or c.args.shifts.now last 0) (c.requires.right last (omega arith))

pub loop-shift-preserved : goal.loop-shift-preserved
loop-shift-preserved c =
    let needle = c.args.needle.now in
    let last = length c.args.shifts.now - 1 in
    let shift = c.loop-shift.shift in
    let is = c.loop-shift.invariant in
    next_candidate needle last shift (get_or c.args.shifts.now (last - shift) 0) is c.loop-shift-test.true (c.requires.right (last - shift) (omega (arith, is.some))) (λ same. search rules)
