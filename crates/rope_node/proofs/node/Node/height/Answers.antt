use Rattle.std.proofs.Common.{◌≤◌, subst, arith}
use Rattle.rope_node.specs.Tree.{Tree}
use Rattle.rope_node.proofs.Trees.{height_most}
use Rattle.rope_node.proofs.node.Node.height.Goals as goal

pub returns-in-Pair-clause-most : goal.returns-in-Pair-clause-most
returns-in-Pair-clause-most c =
    let most : c.args.self.now.height ≤ 82 = subst (λ (t : Tree). t.height ≤ 82) c.self.view_is (height_most _ c.self.invariant.tree c.self.invariant.most) in
    grind arith
