use Rattle.std.proofs.Common.{◌≤◌, ◌+◌, ◌^◌, max, length, arith}
use Rattle.std.proofs.lemmas.Grind.{common_steps}
use Rattle.rope_core.specs.Join.{leaves_for}
use Rattle.rope_core.proofs.Heights.{build_levels, build_high}
use Rattle.rope_core.proofs.build.+build.Goals as goal

pub pair-requires-clause-near : goal.pair-requires-clause-near
pair-requires-clause-near g t c =
    let levels = build_levels _ _ _ _ _ _ c.if-bases-le-LEAF_MOST.false c.div_ceil-leaves.ensures c.split_at.ensures.front_len (grind arith) c.in_ok-left.ensures.high c.in_ok-left.ensures.low c.in_ok-right.ensures.high c.in_ok-right.ensures.low in
    (omega arith, levels.1)

pub returns-clause-high : goal.returns-clause-high
returns-clause-high g t c =
    let levels = build_levels _ _ _ _ _ _ c.if-bases-le-LEAF_MOST.false c.div_ceil-leaves.ensures c.split_at.ensures.front_len (grind arith) c.in_ok-left.ensures.high c.in_ok-left.ensures.low c.in_ok-right.ensures.high c.in_ok-right.ensures.low in
    let high : leaves_for (length c.args.bases.now) ≤ 2 ^ (max c.in_ok-left.left.height c.in_ok-right.right.height + 1) = build_high _ _ _ _ _ _ c.if-bases-le-LEAF_MOST.false c.div_ceil-leaves.ensures c.split_at.ensures.front_len (grind arith) c.in_ok-right.ensures.high levels.0 in
    grind (arith, common_steps)
