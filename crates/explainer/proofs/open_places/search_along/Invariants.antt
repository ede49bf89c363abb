use Rattle.std.proofs.Common.{◌-◌, ◌≤◌, length}
use Rattle.explainer.specs.Open.{OutBut}
use Rattle.explainer.proofs.open_places.search_along.Given as goal

abbrev pub invariant-loop-place : goal.invariant-loop-place
invariant-loop-place l = record {
  within : l.place ≤ length l.dna;
  out : OutBut l.needle l.dna l.at l.begun.items l.place;
}

abbrev pub decreases-loop-place : goal.decreases-loop-place
decreases-loop-place l = length l.dna - l.place
