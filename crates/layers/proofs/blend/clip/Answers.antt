use Rattle.layers.specs.Layers.{clipped}
use Rattle.layers.proofs.EachPlace.{merged_all, merged_more}
use Rattle.layers.proofs.blend.clip.Goals as goal

pub loop-place-preserved : goal.loop-place-preserved
loop-place-preserved c =
    merged_more clipped _ _ _ _ c.index-top-place.result _ _ c.requires c.loop-place-test.true c.loop-place.invariant c.index-next-place.is c.clipped.ensures

pub returns : goal.returns
returns c = merged_all clipped _ _ _ _ c.requires c.loop-place-test.false c.loop-place.invariant
