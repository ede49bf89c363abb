use Rattle.std.proofs.Common.{arith}
use Rattle.cell_rope.proofs.Kept.{kept_pair}
use Rattle.cell_rope.proofs.node.Node.pair.Goals as goal

pub made-requires : goal.made-requires
made-requires c =
    kept_pair _ _ _ _ _ _ _ c.in_ok-share.ensures c.in_ok-share-2.ensures (omega (arith, c.len.ensures.length, c.len-2.ensures.length)) c.requires c.both_known-known.ensures
