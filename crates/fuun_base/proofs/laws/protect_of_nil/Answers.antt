use Rattle.fuun_base.proofs.QuoteLemmas.{protect_of-nil}
use Rattle.fuun_base.proofs.laws.protect_of_nil.Goals as goal

pub returns : goal.returns
returns c = protect_of-nil
