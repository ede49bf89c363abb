use Rattle.std.proofs.Common.{◌+◌, ◌-◌, ◌≤◌, length}
use Rattle.explainer.specs.Repeats.{IsSame}
use Rattle.explainer.proofs.repeats.lengthened.Given as goal

abbrev pub invariant-loop-same : goal.invariant-loop-same
invariant-loop-same l = record {
  within : l.at + l.same ≤ length l.list;
  same : IsSame l.list l.at l.same;
}

abbrev pub decreases-loop-same : goal.decreases-loop-same
decreases-loop-same l = length l.list - l.same
