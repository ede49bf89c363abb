use Rattle.dna_reader.proofs.ConstantLemmas.{constants_are_longest, constants_are_one}
use Rattle.dna_reader.proofs.laws.longest_constants.Goals as goal

pub returns-clause-longest : goal.returns-clause-longest
returns-clause-longest c = constants_are_longest

pub returns-clause-once : goal.returns-clause-once
returns-clause-once c = constants_are_one
