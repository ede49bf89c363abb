use Rattle.dna_reader.proofs.CodeLemmas.{number_is_read}
use Rattle.dna_reader.proofs.laws.number_code.Goals as goal

pub returns : goal.returns
returns c = number_is_read
