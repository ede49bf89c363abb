use Rattle.assembler.proofs.AnswerLemmas.{has_answer, answer_is_one}
use Rattle.assembler.proofs.laws.one_answer.Goals as goal

pub returns-clause-made : goal.returns-clause-made
returns-clause-made c = has_answer

pub returns-clause-once : goal.returns-clause-once
returns-clause-once c = answer_is_one
