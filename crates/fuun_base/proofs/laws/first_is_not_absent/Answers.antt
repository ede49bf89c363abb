use Rattle.fuun_base.proofs.OccurrenceLemmas.{first_is_not_absent}
use Rattle.fuun_base.proofs.laws.first_is_not_absent.Goals as goal

pub returns : goal.returns
returns c = first_is_not_absent
