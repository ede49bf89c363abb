use Rattle.std.proofs.Common.{◌≡◌, map, take}
use Rattle.source_text.specs.Measured.{repeated_skip}
use Rattle.source_text.proofs.measure.repeated_skips.Given as goal

abbrev pub invariant-skips : goal.invariant-skips
invariant-skips l = l.repeated.items ≡ map (repeated_skip l.n) (take l.skip-index l.skips)
