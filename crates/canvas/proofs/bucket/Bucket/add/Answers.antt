use Rattle.canvas.proofs.BucketLemmas.{alpha_room, colour_room, tally-alpha, tally-colour}
use Rattle.canvas.proofs.bucket.Bucket.add.Goals as goal

pub add-requires : goal.add-requires
add-requires c = colour_room _ _ (λ k. k.red) c.self.inside.red c.self.view_is c.requires c.self.invariant.red_total

pub add-requires-in-Some : goal.add-requires-in-Some
add-requires-in-Some c = colour_room _ _ (λ k. k.green) c.self.inside.green c.self.view_is c.requires c.self.invariant.green_total

pub add-requires-in-Some-2 : goal.add-requires-in-Some-2
add-requires-in-Some-2 c = colour_room _ _ (λ k. k.blue) c.self.inside.blue c.self.view_is c.requires c.self.invariant.blue_total

pub invariant_of-self : goal.invariant_of-self
invariant_of-self c =
    tally-colour _ _ c.args.ink _ _ _ _ _ _ _ _ c.and-self-inside.ensures c.in-Some.ensures c.self.invariant c.add.ensures c.add-in-Some.ensures c.add-in-Some-2.ensures

pub add-requires-in-Some-alpha_of : goal.add-requires-in-Some-alpha_of
add-requires-in-Some-alpha_of c = alpha_room _ _ c.self.inside.alpha c.self.view_is c.requires c.self.invariant.alpha_total

pub invariant_of-self-in-Some-alpha_of : goal.invariant_of-self-in-Some-alpha_of
invariant_of-self-in-Some-alpha_of c =
    tally-alpha _ _ c.args.ink _ _ _ _ _ _ c.and-self-inside.ensures c.in-None.ensures c.in-Some-alpha_of.ensures c.self.invariant c.add-in-Some-alpha_of.ensures
