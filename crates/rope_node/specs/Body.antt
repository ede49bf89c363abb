-- What a node keeps, and what is seen of it.
use Rattle.std.specs.Prelude.{◌≡◌, ◌+◌, ◌^◌, ◌≤◌, max, ◌++◌, length}
use Rattle.fuun_base.specs.declared.tally.Tally.{Tally}
use Rattle.fuun_base.specs.Tally.{tally_of}
use Rattle.rope_node.specs.Tree.{Tree, leaf_of, pair_of, IsNear, IsTree}
use Rattle.rope_node.specs.declared.node.Body.{Body}
use Rattle.rope_node.specs.declared.node.Body.TheVariants.{Leaf, Pair}

-- the tree of a node
abbrev pub tree_of : Body → Tree
tree_of (Leaf bases tally) = leaf_of bases.items
tree_of (Pair left right len height tally) = pair_of left right

-- the tally that a node keeps
abbrev pub tally_in : Body → Tally
tally_in (Leaf bases tally) = tally
tally_in (Pair left right len height tally) = tally

-- a leaf's size; of a pair that its sides are near, and that its length and its height are right
abbrev pub KeepsLengthAndHeight : Body → Type 0
KeepsLengthAndHeight (Leaf bases tally) = (1 ≤ length bases.items) × (length bases.items ≤ 512)
KeepsLengthAndHeight (Pair left right len height tally) =
    IsNear left.height right.height × (len ≡ length (left.bases ++ right.bases)) × (height ≡ max left.height right.height + 1)

-- it is a tree of at most 2^41 bases, and its numbers are right
pub record IsKept (body : Body) : Type 0 where
  pub tree : IsTree (tree_of body)
  pub most : length (tree_of body).bases ≤ 2 ^ 41
  pub numbers : KeepsLengthAndHeight body
  pub tally : tally_in body ≡ tally_of (tree_of body).bases
