use Rattle.std.proofs.Common.{◌-◌, ◌≤◌, length}
use Rattle.explainer.specs.Windows.{AreOut}
use Rattle.explainer.proofs.searching.search_by.Given as goal

abbrev pub invariant-loop-place : goal.invariant-loop-place
invariant-loop-place l = record {
  after : l.at ≤ l.place;
  within : l.place ≤ length l.dna;
  out : AreOut l.needle l.dna l.at l.place;
}

abbrev pub decreases-loop-place : goal.decreases-loop-place
decreases-loop-place l = length l.dna - l.place
