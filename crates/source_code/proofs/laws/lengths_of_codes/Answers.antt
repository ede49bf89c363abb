use Rattle.source_code.proofs.LawLemmas.{code_has_length, codes_have_lengths, others_are_behind}
use Rattle.source_code.proofs.laws.lengths_of_codes.Goals as goal

pub returns-clause-line : goal.returns-clause-line
returns-clause-line c = code_has_length

pub returns-clause-all : goal.returns-clause-all
returns-clause-all c = codes_have_lengths

pub returns-clause-behind : goal.returns-clause-behind
returns-clause-behind c = others_are_behind
