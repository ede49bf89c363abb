-- What holds of a rope by its root.
use Rattle.std.proofs.Common.{◌≡◌, ◌⊎◌, ◌<◌, ◌≤◌, ◌^◌, [], length, Option, Some, None, IsNone, is_some, refl, ap, inl, inr, arith}
use Rattle.rope_node.specs.Tree.{Tree, IsTree, leaf, pair}
use Rattle.rope_node.proofs.Trees.{leaves_within, low}
use Rattle.rope_core.specs.Rope.{no_tree, rope_of, IsRoot, IsRope}
use Rattle.rope_core.proofs.Heights.{height_below_bits}

-- a tree has a base
no_bases : (t : Tree) → IsTree t → t.bases ≡ [] → ⊥
no_bases t tree empty =
    let some : (1 ≤ t.leaves) × (t.leaves ≤ length t.bases) = leaves_within t tree in
    let none : length t.bases ≡ 0 = ap length empty in
    omega arith

-- a tree of at most 2^41 bases is a rope
pub rope_of_tree : (t : Tree) → IsTree t → length t.bases ≤ 2 ^ 41 → IsRope t
rope_of_tree t tree most =
    let within : (1 ≤ t.leaves) × (t.leaves ≤ length t.bases) = leaves_within t tree in
    record { tree = inr tree; most = most; leaves = within.1; balance = λ _. low t tree; low = height_below_bits t.height t.leaves (length t.bases) (low t tree) within.1 }

-- so is no tree
pub rope_of_none : IsRope no_tree
rope_of_none = record { tree = inl refl; most = omega arith; leaves = omega arith; balance = λ some. absurd (some refl); low = omega arith }

pub rope_of_root : (o : Option Tree) → IsRoot o → IsRope (rope_of o)
rope_of_root None root = rope_of_none
rope_of_root (Some t) root = rope_of_tree t root.0 root.1

-- none where there is no root, and no bases exactly there
pub no_root : (o : Option Tree) → IsRoot o → (IsNone o → (rope_of o).bases ≡ []) × ((rope_of o).bases ≡ [] → IsNone o)
no_root None root = ((λ _. refl), (λ _. refl))
no_root (Some t) root = ((λ none. cc), (λ empty. absurd (no_bases t root.0 empty)))

-- two options of one variant
pub same_none : {A B : Type 0} → (o : Option A) (p : Option B) → is_some p ≡ is_some o → (IsNone p → IsNone o) × (IsNone o → IsNone p)
same_none None None same = ((λ _. refl), (λ _. refl))
same_none None (Some b) same = cc
same_none (Some a) None same = cc
same_none (Some a) (Some b) same = ((λ none. cc), (λ none. cc))

-- a tree of height 0 is a leaf
above_leaf : (t : Tree) → (t ≡ no_tree) ⊎ IsTree t → 512 < length t.bases → 1 ≤ t.height
above_leaf t (inl none) many =
    let empty : length t.bases ≡ 0 = ap (λ (s : Tree). length s.bases) none in
    omega arith
above_leaf t (inr (leaf d some most)) many = omega arith
above_leaf t (inr (pair l r left right near)) many = omega arith

-- more bases than a leaf has make a tree higher than a leaf
pub higher_than_leaf : (t : Tree) → IsRope t → 512 < length t.bases → 1 ≤ t.height
higher_than_leaf t rope many = above_leaf t rope.tree many
