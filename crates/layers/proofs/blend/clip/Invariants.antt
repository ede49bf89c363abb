use Rattle.std.proofs.Common.{◌≡◌, ◌++◌, take, drop}
use Rattle.layers.specs.Layers.{each_place, clipped}
use Rattle.layers.proofs.blend.clip.Given as goal

abbrev pub invariant-loop-place : goal.invariant-loop-place
invariant-loop-place l = l.top ≡ take l.place (each_place clipped l.initial.top l.next) ++ drop l.place l.initial.top
