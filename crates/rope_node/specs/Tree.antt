-- The trees that nodes stand for.
use Rattle.std.specs.Prelude.{ℕ, ◌+◌, ◌≤◌, max, List, ◌++◌, length}
use Rattle.fuun_base.specs.declared.letters.Base.{Base}

-- what is seen of a node: its bases from left to right, its height, and the number of its leaves
pub record Tree : Type 0 where
  pub bases : List Base
  pub height : ℕ
  pub leaves : ℕ

-- the leaf of these bases
abbrev pub leaf_of : List Base → Tree
leaf_of d = record { bases = d; height = 0; leaves = 1 }

-- the pair of two trees
abbrev pub pair_of : Tree → Tree → Tree
pair_of l r = record { bases = l.bases ++ r.bases; height = max l.height r.height + 1; leaves = l.leaves + r.leaves }

-- neither height is more than one above the other
abbrev pub IsNear : ℕ → ℕ → Type 0
IsNear a b = (a ≤ b + 1) × (b ≤ a + 1)

-- a leaf of 1 to 512 bases, or a pair of trees whose heights differ by at most one
pub data IsTree : Tree → Type 0 where
  leaf : (d : List Base) → 1 ≤ length d → length d ≤ 512 → IsTree (leaf_of d)
  pair : (l r : Tree) → IsTree l → IsTree r → IsNear l.height r.height → IsTree (pair_of l r)
