use Rattle.std.proofs.Common.{◌≡◌, ◌-◌, ◌≤◌, length, take}
use Rattle.fuun_io.specs.Written.{appended}
use Rattle.fuun_io.proofs.put.put_all.Given as goal

abbrev pub invariant-loop-done : goal.invariant-loop-done
invariant-loop-done g l =
    (l.done ≤ length l.piece)
    × (g.S.Sink.bytes l.sink ≡ appended (g.S.Sink.bytes l.fn.sink) (take l.done l.piece))
    × (g.S.Sink.faults l.sink ≡ g.S.Sink.faults l.fn.sink)

abbrev pub decreases-loop-done : goal.decreases-loop-done
decreases-loop-done g l = length l.piece - l.done
