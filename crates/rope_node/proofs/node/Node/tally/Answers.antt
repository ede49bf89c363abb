use Rattle.std.proofs.Common.{◌≡◌, rules}
use Rattle.fuun_base.specs.Tally.{tally_of}
use Rattle.rope_node.proofs.Kept.{counted_total}
use Rattle.rope_node.proofs.node.Node.tally.Goals as goal

pub returns-in-Leaf-clause-total : goal.returns-in-Leaf-clause-total
returns-in-Leaf-clause-total c =
    let counted : c.in-Leaf.tally ≡ tally_of c.args.self.now.bases = search rules in
    counted_total _ _ counted

pub returns-in-Pair-clause-total : goal.returns-in-Pair-clause-total
returns-in-Pair-clause-total c =
    let counted : c.in-Pair.tally ≡ tally_of c.args.self.now.bases = search rules in
    counted_total _ _ counted
