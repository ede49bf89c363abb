-- What is seen of a node one level down.
use Rattle.std.specs.Prelude.{◌≡◌, ◌≤◌, length}
use Rattle.rope_node.specs.Tree.{Tree, leaf_of, pair_of, IsNear}
use Rattle.rope_node.specs.declared.node.View.{View}
use Rattle.rope_node.specs.declared.node.View.TheVariants.{Leaf, Pair}

-- a tree's leaf with its bases, or its two sides
abbrev pub Shows : View → Tree → Type 0
Shows (Leaf bases) t = (t ≡ leaf_of bases.now) × (1 ≤ length bases.now) × (length bases.now ≤ 512)
Shows (Pair left right) t = (t ≡ pair_of left.now right.now) × IsNear left.now.height right.now.height
