use Rattle.std.proofs.Common.{ℕ, length}
use Rattle.source_text.specs.Keeping.{AreKnown}
use Rattle.source_text.specs.Names.{Names}
use Rattle.source_text.proofs.SourceLemmas.{LabelsKnown}
use Rattle.source_text.proofs.sources.add_labels.Given as goal

abbrev pub invariant-statements : goal.invariant-statements
invariant-statements l = (limit : ℕ) (names : Names) → AreKnown limit l.fn.known.items names → LabelsKnown limit l.lines l.known.items names l.fn.statements l.statements

abbrev pub decreases-statements : goal.decreases-statements
decreases-statements l = length l.statements
