use Rattle.dna_reader.proofs.CodeLemmas.{pair_code_is_read}
use Rattle.dna_reader.proofs.laws.pair_codes.Goals as goal

pub returns : goal.returns
returns c = pair_code_is_read
