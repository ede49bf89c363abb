use Rattle.canvas.proofs.BucketLemmas.{pixel_from}
use Rattle.canvas.proofs.bucket.Bucket.pixel.Goals as goal

pub returns : goal.returns
returns c =
    pixel_from c.self.inside.history.inks c.args.self.now c.self.inside.red c.self.inside.green c.self.inside.blue c.self.inside.alpha c.or.result c.or-2.result c.or-3.result c.or-alpha.result _ _ _ _ c.self.view_is c.self.invariant
    c.or.ensures c.or-2.ensures c.or-3.ensures c.or-alpha.ensures c.scaled-red.ensures.value c.scaled-green.ensures.value c.scaled-blue.ensures.value c.of.ensures
