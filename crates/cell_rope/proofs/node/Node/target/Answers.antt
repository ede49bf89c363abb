use Rattle.cell_rope.proofs.Kept.{kept_target}
use Rattle.cell_rope.proofs.node.Node.target.Goals as goal

pub made-requires : goal.made-requires
made-requires c = kept_target c.args.lo c.args.hi c.requires.order c.requires.most
