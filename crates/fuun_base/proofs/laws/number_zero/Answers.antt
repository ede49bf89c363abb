use Rattle.fuun_base.proofs.AsnatLemmas.{asnat-zero}
use Rattle.fuun_base.proofs.laws.number_zero.Goals as goal

pub returns : goal.returns
returns c = asnat-zero
