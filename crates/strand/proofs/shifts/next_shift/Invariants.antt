use Rattle.std.proofs.Common.{◌+◌, ◌-◌}
use Rattle.strand.proofs.Shifting.{IsCandidate}
use Rattle.strand.proofs.shifts.next_shift.Given as goal

abbrev pub invariant-loop-shift : goal.invariant-loop-shift
invariant-loop-shift l = IsCandidate l.needle l.last l.shift

abbrev pub decreases-loop-shift : goal.decreases-loop-shift
decreases-loop-shift l = l.last + 1 - l.shift
