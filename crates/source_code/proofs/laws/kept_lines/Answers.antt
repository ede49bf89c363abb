use Rattle.source_code.proofs.AnswerLemmas.{kept_answers_alike}
use Rattle.source_code.proofs.laws.kept_lines.Goals as goal

pub returns : goal.returns
returns c = kept_answers_alike
