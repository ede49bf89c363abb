use Rattle.std.proofs.Common.{refl}
use Rattle.fuun_base.specs.Quote.{protect}
use Rattle.fuun_base.proofs.laws.protect_worked.Goals as goal

pub returns : goal.returns
unfolding protect
returns c = (refl, refl, refl)
