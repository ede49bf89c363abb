use Rattle.picture_in.proofs.HeaderLemmas.{AreRead}
use Rattle.picture_in.proofs.header.behind_digits.Given as goal

abbrev pub invariant-loop-index : goal.invariant-loop-index
invariant-loop-index l = AreRead l.bytes l.index l.value 1000
