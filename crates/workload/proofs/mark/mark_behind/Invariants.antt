use Rattle.std.proofs.Common.{◌≡◌, drop}
use Rattle.workload.specs.Mark.{mark_behind}
use Rattle.workload.proofs.mark.mark_behind.Given as goal

abbrev pub invariant-loop-base : goal.invariant-loop-base
invariant-loop-base l = mark_behind l.mark (drop l.base-index l.bases) ≡ mark_behind l.fn.mark l.bases
