use Rattle.std.proofs.Common.{◌≡◌, ◌*◌, ◌++◌, take, drop, flat_map}
use Rattle.ppm_out.specs.Ppm.{rgb_bytes}
use Rattle.ppm_out.proofs.pack.Given as goal

abbrev pub invariant-loop-pixel : goal.invariant-loop-pixel
invariant-loop-pixel l =
    (l.at ≡ 3 * l.pixel-index)
    × (l.out ≡ flat_map rgb_bytes (take l.pixel-index l.pixels) ++ drop l.at l.initial.out)
