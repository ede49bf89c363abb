use Rattle.std.proofs.Common.{◌∙◌, Err, Ok, subst}
use Rattle.source_text.specs.Judging.{with_statement}
use Rattle.source_text.specs.Taking.{IsTaken}
use Rattle.source_text.proofs.SourceLemmas.{next_none, next_some}
use Rattle.source_text.proofs.TakingLemmas.{goes_bad, goes_end, goes_more}
use Rattle.source_text.proofs.taking.take_all.Goals as goal

pub returns-in-Err-clause-value : goal.returns-in-Err-clause-value
returns-in-Err-clause-value c before is =
    goes_bad c.args.reading.now.limit c.statements.reading c.take_statement.new.reading before c.args.statements c.statements.statements c.next_statement.new.self c.in-Some.statement c.in-Err.refusal
    (next_some c.in_ok-statement.field-0 c.in-Some.statement c.statements.statements c.next_statement.new.self c.in-Some.is c.in_ok-statement.ensures.next)
    (λ state read.
    subst (λ l. IsTaken c.take_statement.new.reading (Err c.in-Err.refusal) (with_statement l state c.in-Some.statement)) c.statements.invariant.limit
    (subst (λ r. IsTaken c.take_statement.new.reading r (with_statement c.statements.reading.limit state c.in-Some.statement)) c.in-Err.is (c.in_ok-refusal.ensures.value state read)))
    (c.statements.invariant.taken before is)

pub statements-preserved : goal.statements-preserved
statements-preserved c = record {
  limit = c.in_ok-refusal.ensures.limit ∙ c.statements.invariant.limit;
  taken = λ before is.
      goes_more c.args.reading.now.limit c.statements.reading c.take_statement.new.reading before c.args.statements c.statements.statements c.next_statement.new.self c.in-Some.statement
      c.in_default-2.field-0
      (next_some c.in_ok-statement.field-0 c.in-Some.statement c.statements.statements c.next_statement.new.self c.in-Some.is c.in_ok-statement.ensures.next)
      (λ state read.
      subst (λ l. IsTaken c.take_statement.new.reading (Ok c.in_default-2.field-0) (with_statement l state c.in-Some.statement)) c.statements.invariant.limit
      (subst (λ r. IsTaken c.take_statement.new.reading r (with_statement c.statements.reading.limit state c.in-Some.statement)) c.in_default-2.is (c.in_ok-refusal.ensures.value state read)))
      (c.statements.invariant.taken before is);
}

pub returns-clause-value : goal.returns-clause-value
returns-clause-value c before is =
    goes_end c.args.reading.now.limit c.statements.reading before c.args.statements c.statements.statements tt
    (next_none c.in_ok-statement.field-0 c.statements.statements c.next_statement.new.self c.in_default.is c.in_ok-statement.ensures.next)
    (c.statements.invariant.taken before is)
