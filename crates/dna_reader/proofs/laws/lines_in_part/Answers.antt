use Rattle.dna_reader.proofs.LineLemmas.{part_is_front}
use Rattle.dna_reader.proofs.laws.lines_in_part.Goals as goal

pub returns : goal.returns
returns c = part_is_front
