use Rattle.fuun_base.proofs.OccurrenceLemmas.{first_is_one}
use Rattle.fuun_base.proofs.laws.first_is_one.Goals as goal

pub returns : goal.returns
returns c = first_is_one
