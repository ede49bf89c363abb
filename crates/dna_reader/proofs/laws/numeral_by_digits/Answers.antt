use Rattle.dna_reader.proofs.NumeralLemmas as lemmas
use Rattle.dna_reader.proofs.laws.numeral_by_digits.Goals as goal

pub returns : goal.returns
returns c = lemmas.numeral_by_digits
