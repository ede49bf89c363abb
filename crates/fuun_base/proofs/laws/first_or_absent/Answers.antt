use Rattle.fuun_base.proofs.OccurrenceLemmas.{first_or_absent}
use Rattle.fuun_base.proofs.laws.first_or_absent.Goals as goal

pub returns : goal.returns
returns c = first_or_absent
