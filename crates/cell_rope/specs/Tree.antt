-- The trees that nodes stand for.
use Rattle.std.specs.Prelude.{ℕ, ◌+◌, ◌-◌, max, List, ◌++◌, map}
use Rattle.fuun_base.specs.declared.letters.Base.{Base}
use Rattle.sym_strand.specs.declared.cells.Cell.{Cell}
use Rattle.sym_strand.specs.declared.cells.Cell.TheVariants.{Known}
use Rattle.sym_strand.specs.Cells.{places_from}

-- what is seen of a node: its cells from left to right, and how many levels stand below it
pub record Tree : Type 0 where
  pub cells : List Cell
  pub levels : ℕ

-- the leaf of these bases
abbrev pub known_leaf : List Base → Tree
known_leaf bases = record { cells = map Known bases; levels = 0 }

-- the leaf of a range of the target
abbrev pub target_leaf : ℕ → ℕ → Tree
target_leaf lo hi = record { cells = places_from lo (hi - lo); levels = 0 }

-- the pair of two trees
abbrev pub pair_of : Tree → Tree → Tree
pair_of l r = record { cells = l.cells ++ r.cells; levels = max l.levels r.levels + 1 }
