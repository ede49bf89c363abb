use Rattle.fuun_base.proofs.QuoteLemmas.{protect-append}
use Rattle.fuun_base.proofs.laws.protect_of_joined.Goals as goal

pub returns : goal.returns
returns c = protect-append
