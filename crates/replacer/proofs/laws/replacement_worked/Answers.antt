use Rattle.std.proofs.Common.{refl}
use Rattle.fuun_base.specs.Quote.{protect, asnat, asnat_from}
use Rattle.replacer.proofs.laws.replacement_worked.Goals as goal

pub returns : goal.returns
unfolding protect asnat asnat_from
returns c = (refl, refl, refl, refl)
