use Rattle.fuun_base.proofs.QuoteLemmas.{protect_four}
use Rattle.fuun_base.proofs.laws.protect_four.Goals as goal

pub returns : goal.returns
returns c = protect_four
