use Rattle.canvas.proofs.BucketLemmas.{tally-empty}
use Rattle.canvas.proofs.bucket.Bucket.new.Goals as goal

pub invariant_of-result : goal.invariant_of-result
invariant_of-result c = tally-empty _ _ _ _ _ c.new-5.ensures c.new.ensures c.new-2.ensures c.new-3.ensures c.new-4.ensures
