use Rattle.source_code.proofs.ReadLemmas.{pair_is_read, pair_is_read_in_place, readable_alike}
use Rattle.source_code.proofs.laws.pairs_are_read.Goals as goal

pub returns-clause-read : goal.returns-clause-read
returns-clause-read c = pair_is_read

pub returns-clause-alike : goal.returns-clause-alike
returns-clause-alike c = readable_alike

pub returns-clause-in_place : goal.returns-clause-in_place
returns-clause-in_place c = pair_is_read_in_place
