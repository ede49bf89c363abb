use Rattle.explainer.proofs.OpenLemmas.{ClosedTo}
use Rattle.explainer.proofs.open_places.first_closed.Given as goal

abbrev pub invariant-loop-place : goal.invariant-loop-place
invariant-loop-place l = ClosedTo l.needle l.dna l.begun l.place-index
