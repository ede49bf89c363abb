use Rattle.std.proofs.Common.{subst}
use Rattle.rope_core.specs.Rope.{IsRope}
use Rattle.rope_core.proofs.RopeRoots.{rope_of_root}
use Rattle.rope_core.proofs.rope.Rope.len.Goals as goal

pub returns-in-Some-clause-rope : goal.returns-in-Some-clause-rope
returns-in-Some-clause-rope c = subst IsRope c.self.view_is (rope_of_root _ c.self.invariant)

pub returns-in-Some-clause-low : goal.returns-in-Some-clause-low
returns-in-Some-clause-low c =
    let rope : IsRope c.args.self.now = subst IsRope c.self.view_is (rope_of_root _ c.self.invariant) in
    rope.low
