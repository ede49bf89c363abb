use Rattle.std.proofs.Common.{arith}
use Rattle.rope_node.proofs.Kept.{kept_pair}
use Rattle.rope_node.proofs.node.Node.pair.Goals as goal

pub made-requires : goal.made-requires
made-requires g c =
    kept_pair _ _ _ _ _ _ _ c.in_ok-share.ensures.same c.in_ok-share-2.ensures.same c.len.ensures.tree c.len-2.ensures.tree c.requires.near (grind arith) (grind arith) (grind arith) (cc)
