use Rattle.fuun_base.specs.Digits.{bits_rise}
use Rattle.fuun_base.proofs.laws.bits_rise.Goals as goal

pub returns : goal.returns
returns c = bits_rise
