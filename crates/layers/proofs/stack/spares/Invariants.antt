use Rattle.std.proofs.Common.{◌≡◌, ◌≤◌, vec_len}
use Rattle.std.specs.Vec.{vec_capacity}
use Rattle.layers.proofs.stack.spares.Given as goal

abbrev pub invariant-loop-made : goal.invariant-loop-made
invariant-loop-made g l = record {
  made : vec_len l.made ≡ l._made;
  room : l.count ≤ vec_capacity l.made;
}
