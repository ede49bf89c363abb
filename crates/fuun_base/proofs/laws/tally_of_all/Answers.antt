use Rattle.fuun_base.proofs.Counting.{tally_total-tally_of}
use Rattle.fuun_base.proofs.laws.tally_of_all.Goals as goal

pub returns : goal.returns
returns c = tally_total-tally_of
