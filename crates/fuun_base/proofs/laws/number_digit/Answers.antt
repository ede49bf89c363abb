use Rattle.fuun_base.proofs.AsnatLemmas.{asnat-digit}
use Rattle.fuun_base.proofs.laws.number_digit.Goals as goal

pub returns : goal.returns
returns c = asnat-digit
