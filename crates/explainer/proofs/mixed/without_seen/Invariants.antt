use Rattle.std.proofs.Common.{ℕ}
use Rattle.explainer.proofs.OpenLemmas.{KeptOn}
use Rattle.explainer.proofs.mixed.without_seen.Given as goal

abbrev pub invariant-loop-begin : goal.invariant-loop-begin
invariant-loop-begin l = (to : ℕ) → KeptOn l.needle l.dna to l.begun l.begin-index l.kept.items
