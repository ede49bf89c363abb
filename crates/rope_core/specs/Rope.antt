-- What is seen of a rope.
use Rattle.std.specs.Prelude.{◌≡◌, ◌≢◌, ◌⊎◌, ◌*◌, ◌^◌, ◌≤◌, Option, Some, None, [], length}
use Rattle.fuun_base.specs.Quote.{bits}
use Rattle.rope_node.specs.Tree.{Tree, IsTree}

-- the rope of no bases
abbrev pub no_tree : Tree
no_tree = record { bases = []; height = 0; leaves = 0 }

-- empty, or a tree of at most 2^41 bases, which is low against its leaves and its bases
pub record IsRope (t : Tree) : Type 0 where
  pub tree : (t ≡ no_tree) ⊎ IsTree t
  pub most : length t.bases ≤ 2 ^ 41
  pub leaves : t.leaves ≤ length t.bases
  pub balance : t.bases ≢ [] → 2 ^ t.height ≤ t.leaves * t.leaves
  pub low : t.height ≤ 2 * bits (length t.bases)

-- what is seen of a rope's root
abbrev pub rope_of : Option Tree → Tree
rope_of None = no_tree
rope_of (Some t) = t

-- no root, or the root of a tree of at most 2^41 bases
abbrev pub IsRoot : Option Tree → Type 0
IsRoot None = Unit {0}
IsRoot (Some t) = IsTree t × (length t.bases ≤ 2 ^ 41)
