use Rattle.dna_reader.proofs.CommandLemmas as lemmas
use Rattle.dna_reader.proofs.laws.lines_are_read.Goals as goal

pub returns-clause-same : goal.returns-clause-same
returns-clause-same c = lemmas.lines_are_read

pub returns-clause-good : goal.returns-clause-good
returns-clause-good c = lemmas.lines_are_good
