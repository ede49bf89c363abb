use Rattle.fuun_base.proofs.Counting.{tally_of-append}
use Rattle.fuun_base.proofs.laws.tally_of_joined.Goals as goal

pub returns : goal.returns
returns c = tally_of-append
