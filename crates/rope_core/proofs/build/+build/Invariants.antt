use Rattle.std.proofs.Common.{length}
use Rattle.rope_core.proofs.build.+build.Given as goal

abbrev pub decreases-build : goal.decreases-build
decreases-build g l = length l.bases.now
