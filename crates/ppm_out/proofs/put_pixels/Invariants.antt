use Rattle.std.proofs.Common.{◌≡◌, ◌-◌, ◌≤◌, length, take, flat_map}
use Rattle.fuun_io.specs.Written.{appended}
use Rattle.ppm_out.specs.Ppm.{rgb_bytes}
use Rattle.ppm_out.proofs.put_pixels.Given as goal

abbrev pub invariant-loop-start : goal.invariant-loop-start
invariant-loop-start g l =
    (l.start ≤ length l.pixels)
    × (g.S.Sink.bytes l.sink ≡ appended (g.S.Sink.bytes l.fn.sink) (flat_map rgb_bytes (take l.start l.pixels)))
    × (g.S.Sink.faults l.sink ≡ g.S.Sink.faults l.fn.sink)

abbrev pub decreases-loop-start : goal.decreases-loop-start
decreases-loop-start g l = length l.pixels - l.start
