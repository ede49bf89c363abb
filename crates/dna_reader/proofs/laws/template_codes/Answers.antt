use Rattle.dna_reader.proofs.CodeLemmas.{template_code_is_read}
use Rattle.dna_reader.proofs.laws.template_codes.Goals as goal

pub returns : goal.returns
returns c = template_code_is_read
