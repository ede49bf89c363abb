use Rattle.std.proofs.Common.{◌-◌, ◌≤◌, length}
use Rattle.explainer.proofs.ByPlaces.{SoFar}
use Rattle.explainer.proofs.searching.stand_at.Given as goal

abbrev pub invariant-loop-done : goal.invariant-loop-done
invariant-loop-done l = record {
  within : l.done ≤ length l.needle;
  far : SoFar l.needle l.dna l.place l.done l.sure;
}

abbrev pub decreases-loop-done : goal.decreases-loop-done
decreases-loop-done l = length l.needle - l.done
