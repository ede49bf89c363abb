use Rattle.assembler.proofs.PairLemmas.{one_pair}
use Rattle.assembler.proofs.laws.one_pair.Goals as goal

pub returns : goal.returns
returns c = one_pair
