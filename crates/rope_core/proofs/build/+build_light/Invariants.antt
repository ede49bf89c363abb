use Rattle.std.proofs.Common.{length}
use Rattle.rope_core.proofs.build.+build_light.Given as goal

abbrev pub decreases-build_light : goal.decreases-build_light
decreases-build_light g l = length l.bases.now
