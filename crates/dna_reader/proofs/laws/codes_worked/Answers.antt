use Rattle.dna_reader.proofs.Worked.{pair_worked, search_pair_worked}
use Rattle.dna_reader.proofs.laws.codes_worked.Goals as goal

pub returns-clause-pair : goal.returns-clause-pair
returns-clause-pair c = pair_worked

pub returns-clause-search : goal.returns-clause-search
returns-clause-search c = search_pair_worked
