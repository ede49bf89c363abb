use Rattle.std.proofs.Common.{◌≡◌, length}
use Rattle.source_text.specs.Judging.{State}
use Rattle.source_text.specs.Taking.{IsReading}
use Rattle.source_text.proofs.TakingLemmas.{GoesOn}
use Rattle.source_text.proofs.taking.take_all.Given as goal

abbrev pub invariant-statements : goal.invariant-statements
invariant-statements l = record {
  limit : l.reading.limit ≡ l.fn.reading.limit;
  taken : (before : State) → IsReading l.fn.reading before → GoesOn l.fn.reading.limit l.reading before l.fn.statements l.statements;
}

abbrev pub decreases-statements : goal.decreases-statements
decreases-statements l = length l.statements
