-- What a node keeps, and what is seen of it.
use Rattle.std.specs.Prelude.{◌≡◌, ◌^◌, ◌≤◌, ◌++◌, length}
use Rattle.sym_strand.specs.Cells.{all_known}
use Rattle.cell_rope.specs.Tree.{Tree, known_leaf, target_leaf, pair_of}
use Rattle.cell_rope.specs.declared.node.Body.{Body}
use Rattle.cell_rope.specs.declared.node.Body.TheVariants.{Known, Target, Pair}

-- the tree of a node
abbrev pub tree_of : Body → Tree
tree_of (Known strand) = known_leaf strand.bases
tree_of (Target lo hi) = target_leaf lo hi
tree_of (Pair left right len height known) = pair_of left right

-- the numbers of a node are right
abbrev pub KeepsNumbers : Body → Type 0
KeepsNumbers (Known strand) = Unit {0}
KeepsNumbers (Target lo hi) = lo ≤ hi
KeepsNumbers (Pair left right len height known) =
    (len ≡ length (left.cells ++ right.cells)) × (known ≡ all_known (left.cells ++ right.cells))

-- it has at most 2^41 cells, and its numbers are right
pub record IsKept (body : Body) : Type 0 where
  pub most : length (tree_of body).cells ≤ 2 ^ 41
  pub numbers : KeepsNumbers body
