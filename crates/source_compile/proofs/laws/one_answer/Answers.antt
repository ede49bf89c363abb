use Rattle.source_compile.proofs.AnswerLemmas.{source_answer_is_one, source_has_answer}
use Rattle.source_compile.proofs.laws.one_answer.Goals as goal

pub returns-clause-made : goal.returns-clause-made
returns-clause-made c = source_has_answer

pub returns-clause-once : goal.returns-clause-once
returns-clause-once c = source_answer_is_one
