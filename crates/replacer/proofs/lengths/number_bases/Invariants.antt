use Rattle.std.proofs.Common.{◌≡◌, ◌+◌, length}
use Rattle.fuun_base.specs.Quote.{asnat}
use Rattle.replacer.proofs.lengths.number_bases.Given as goal

abbrev pub invariant-loop-left : goal.invariant-loop-left
invariant-loop-left l = l.len + length (asnat l.left) ≡ length (asnat l.fn.n) + 1

abbrev pub decreases-loop-left : goal.decreases-loop-left
decreases-loop-left l = l.left
