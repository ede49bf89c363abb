use Rattle.dna_reader.proofs.CodeLemmas.{pattern_code_is_read}
use Rattle.dna_reader.proofs.ReadableLemmas.{only_readable_is_read}
use Rattle.dna_reader.proofs.laws.pattern_codes.Goals as goal

pub returns-clause-read : goal.returns-clause-read
returns-clause-read c = pattern_code_is_read

pub returns-clause-only : goal.returns-clause-only
returns-clause-only c = only_readable_is_read
