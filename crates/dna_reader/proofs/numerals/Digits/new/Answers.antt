use Rattle.dna_reader.proofs.HeldLemmas.{no_digits}
use Rattle.dna_reader.proofs.numerals.Digits.new.Goals as goal

pub returns : goal.returns
returns c = no_digits
