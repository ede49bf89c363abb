use Rattle.std.proofs.Common.{arith}
use Rattle.ppm_out.proofs.PpmLemmas.{packed_more}
use Rattle.ppm_out.proofs.pack.Goals as goal

pub loop-pixel-preserved : goal.loop-pixel-preserved
loop-pixel-preserved c = (
  omega arith,
  packed_more c.args.pixels.now c.loop-pixel.pixel-index c.loop-pixel.at c.pixel-item.result _ c.loop-pixel.out _ c.loop-pixel-test.true c.loop-pixel.invariant.0 c.pixel-item.is c.loop-pixel.invariant.1 c.pack_one.ensures,
)
