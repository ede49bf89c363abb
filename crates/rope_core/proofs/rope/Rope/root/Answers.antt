use Rattle.std.proofs.Common.{◌≡◌, [], IsNone, subst}
use Rattle.rope_node.specs.Tree.{Tree}
use Rattle.rope_core.proofs.RopeRoots.{no_root, same_none}
use Rattle.rope_core.proofs.rope.Rope.root.Goals as goal

pub returns-clause-empty : goal.returns-clause-empty
returns-clause-empty c =
    let root = no_root _ c.self.invariant in
    let same = same_none c.self.inside.root c.as_ref.result c.as_ref.ensures.variant in
    subst (λ (t : Tree). (IsNone c.as_ref.result → t.bases ≡ []) × (t.bases ≡ [] → IsNone c.as_ref.result)) c.self.view_is ((λ none. root.0 (same.0 none)), (λ empty. same.1 (root.1 empty)))
