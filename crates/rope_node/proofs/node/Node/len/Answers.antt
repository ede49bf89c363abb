use Rattle.std.proofs.Common.{◌≤◌, ◌*◌, ◌^◌, length, subst}
use Rattle.rope_node.specs.Tree.{Tree}
use Rattle.rope_node.proofs.Trees.{leaves_within, low}
use Rattle.rope_node.proofs.node.Node.len.Goals as goal

pub returns-in-Pair-clause-leaves : goal.returns-in-Pair-clause-leaves
returns-in-Pair-clause-leaves c = subst (λ (t : Tree). (1 ≤ t.leaves) × (t.leaves ≤ length t.bases)) c.self.view_is (leaves_within _ c.self.invariant.tree)

pub returns-in-Pair-clause-balance : goal.returns-in-Pair-clause-balance
returns-in-Pair-clause-balance c = subst (λ (t : Tree). 2 ^ t.height ≤ t.leaves * t.leaves) c.self.view_is (low _ c.self.invariant.tree)
