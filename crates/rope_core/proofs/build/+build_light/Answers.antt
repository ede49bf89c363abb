use Rattle.std.proofs.Common.{◌≤◌, ◌+◌, ◌^◌, max, length, arith}
use Rattle.std.proofs.lemmas.Grind.{common_steps}
use Rattle.rope_core.specs.Join.{leaves_for}
use Rattle.rope_core.proofs.Heights.{light_parts, light_levels, light_pair}
use Rattle.rope_core.proofs.build.+build_light.Goals as goal

pub pair-requires-clause-near : goal.pair-requires-clause-near
pair-requires-clause-near g t c =
    let parts = light_parts _ _ _ _ _ c.if-bases-le-LEAF_MOST.false c.div_ceil-leaves.ensures c.div_ceil.ensures c.split_at.ensures.front_len (grind arith) in
    light_levels _ _ _ _ parts.0 parts.1 parts.3 parts.4 c.in_ok-left.ensures.high c.in_ok-left.ensures.low c.in_ok-right.ensures.high c.in_ok-right.ensures.low

pub returns-clause-high : goal.returns-clause-high
returns-clause-high g t c =
    let parts = light_parts _ _ _ _ _ c.if-bases-le-LEAF_MOST.false c.div_ceil-leaves.ensures c.div_ceil.ensures c.split_at.ensures.front_len (grind arith) in
    let high : leaves_for (length c.args.bases.now) ≤ 2 ^ (max c.in_ok-left.left.height c.in_ok-right.right.height + 1) = light_pair _ _ _ _ _ parts.1 parts.2 parts.3 c.in_ok-right.ensures.high in
    grind (arith, common_steps)
