use Rattle.std.proofs.Common.{◌≡◌, ◌-◌, ◌≤◌, length, take}
use Rattle.workload.specs.Mark.{mark_of}
use Rattle.fuun_top.proofs.bench.mark_by_buffer.Given as goal

abbrev pub invariant-loop-place : goal.invariant-loop-place
invariant-loop-place g l =
    (l.place ≤ length (g.T.Strand.bases l.dna))
    × (l.mark ≡ mark_of (take l.place (g.T.Strand.bases l.dna)))
    × (length l.window ≡ length l.initial.window)

abbrev pub decreases-loop-place : goal.decreases-loop-place
decreases-loop-place g l = l.len - l.place
