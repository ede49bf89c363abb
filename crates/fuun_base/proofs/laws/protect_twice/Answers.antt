use Rattle.fuun_base.proofs.QuoteLemmas.{protect-protect}
use Rattle.fuun_base.proofs.laws.protect_twice.Goals as goal

pub returns : goal.returns
returns c = protect-protect
