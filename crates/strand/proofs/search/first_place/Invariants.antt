use Rattle.std.proofs.Common.{◌+◌, ◌-◌, ◌*◌, length}
use Rattle.strand.proofs.Shifting.{IsSought}
use Rattle.strand.proofs.search.first_place.Given as goal

abbrev pub invariant-loop-place : goal.invariant-loop-place
invariant-loop-place l = IsSought l.needle l.hay l.lo l.place l.found

abbrev pub decreases-loop-place : goal.decreases-loop-place
decreases-loop-place l = 2 * length l.hay + length l.needle - (2 * l.place + l.found)
