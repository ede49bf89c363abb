use Rattle.std.proofs.Common.{refl}
use Rattle.fuun_base.specs.Quote.{asnat, asnat_from}
use Rattle.fuun_base.proofs.laws.numbers_worked.Goals as goal

pub returns : goal.returns
unfolding asnat asnat_from
returns c = (refl, refl, refl, refl)
