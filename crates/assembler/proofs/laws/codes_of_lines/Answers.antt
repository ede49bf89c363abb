use Rattle.assembler.proofs.AnswerLemmas.{assembled_is_read, refused_is_not_read}
use Rattle.assembler.proofs.laws.codes_of_lines.Goals as goal

pub returns-clause-read : goal.returns-clause-read
returns-clause-read c = assembled_is_read

pub returns-clause-refused : goal.returns-clause-refused
returns-clause-refused c = refused_is_not_read
