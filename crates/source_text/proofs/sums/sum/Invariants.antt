use Rattle.std.proofs.Common.{ℕ, ◌<◌, length}
use Rattle.source_text.specs.Keeping.{AreKnown}
use Rattle.source_text.specs.Names.{Names}
use Rattle.source_text.proofs.SumLemmas.{SumFound}
use Rattle.source_text.proofs.sums.sum.Given as goal

abbrev pub invariant-factors : goal.invariant-factors
invariant-factors l = record {
  within : length l.rest < length l.fn.tokens;
  found : (limit : ℕ) (names : Names) → AreKnown limit l.fn.known names → SumFound names l.line l.fn.tokens l.products l.last l.faults l.rest;
}

abbrev pub decreases-factors : goal.decreases-factors
decreases-factors l = length l.rest
