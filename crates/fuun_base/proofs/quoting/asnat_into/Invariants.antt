use Rattle.std.proofs.Common.{◌≡◌, ◌+◌, ◌≤◌, ◌++◌, length, vec_len}
use Rattle.std.specs.Vec.{vec_capacity}
use Rattle.fuun_base.specs.Quote.{asnat}
use Rattle.fuun_base.proofs.quoting.asnat_into.Given as goal

abbrev pub invariant-loop-left : goal.invariant-loop-left
invariant-loop-left l = record {
  added : l.out.items ++ asnat l.left ≡ l.fn.out.items ++ asnat l.n;
  room : vec_len l.out + length (asnat l.left) ≤ vec_capacity l.out;
}

abbrev pub decreases-loop-left : goal.decreases-loop-left
decreases-loop-left l = l.left
