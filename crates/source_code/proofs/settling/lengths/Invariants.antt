use Rattle.std.proofs.Common.{◌≤◌, drop, length}
use Rattle.source_code.specs.Kept.{AreFound}
use Rattle.source_code.proofs.settling.lengths.Given as goal

abbrev pub invariant-lines : goal.invariant-lines
invariant-lines l = record {
  within : l.left ≤ length l.lines;
  found : AreFound (drop l.left l.lines) l.behind;
}

abbrev pub decreases-lines : goal.decreases-lines
decreases-lines l = l.left
