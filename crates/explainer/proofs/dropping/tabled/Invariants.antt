use Rattle.explainer.proofs.OpenLemmas.{KeptTo}
use Rattle.explainer.proofs.dropping.tabled.Given as goal

abbrev pub invariant-loop-begin : goal.invariant-loop-begin
invariant-loop-begin l = KeptTo l.needle l.seen l.place l.begun l.begin-index l.kept.items
