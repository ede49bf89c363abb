use Rattle.fuun_base.proofs.AsnatLemmas.{length-asnat}
use Rattle.fuun_base.proofs.laws.number_length.Goals as goal

pub returns : goal.returns
returns c = length-asnat
