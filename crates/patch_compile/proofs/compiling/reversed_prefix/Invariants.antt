use Rattle.patch_compile.proofs.Judged.{IsWritten}
use Rattle.patch_compile.proofs.compiling.reversed_prefix.Given as goal

abbrev pub invariant-rows : goal.invariant-rows
invariant-rows l = IsWritten l.rows l.limit l.left l.bases.items

abbrev pub decreases-rows : goal.decreases-rows
decreases-rows l = l.left
