use Rattle.std.proofs.Common.{◌≡◌, ◌≤◌, length, vec_len}
use Rattle.std.specs.Vec.{vec_capacity}
use Rattle.strand.specs.Shift.{AreShifts}
use Rattle.strand.proofs.shifts.shifts_of.Given as goal

abbrev pub invariant-loop-base : goal.invariant-loop-base
invariant-loop-base l = record {
  len : vec_len l.shifts ≡ l._base-index;
  room : length l.needle ≤ vec_capacity l.shifts;
  right : AreShifts l.needle l.shifts.items;
}
