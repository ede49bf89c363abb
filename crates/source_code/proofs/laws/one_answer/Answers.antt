use Rattle.source_code.proofs.AnswerLemmas.{answer_is_one, has_answer}
use Rattle.source_code.proofs.laws.one_answer.Goals as goal

pub returns-clause-made : goal.returns-clause-made
returns-clause-made c = has_answer

pub returns-clause-once : goal.returns-clause-once
returns-clause-once c = answer_is_one
