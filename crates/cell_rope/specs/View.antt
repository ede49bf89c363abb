-- What is seen of a node one level down.
use Rattle.std.specs.Prelude.{◌≡◌, ◌≤◌}
use Rattle.cell_rope.specs.Tree.{Tree, known_leaf, target_leaf, pair_of}
use Rattle.cell_rope.specs.declared.node.View.{View}
use Rattle.cell_rope.specs.declared.node.View.TheVariants.{Known, Target, Pair}

-- a leaf with what it holds, or the two sides of a pair
abbrev pub Shows : View → Tree → Type 0
Shows (Known strand) t = t ≡ known_leaf strand.now.bases
Shows (Target lo hi) t = (t ≡ target_leaf lo hi) × (lo ≤ hi)
Shows (Pair left right) t = t ≡ pair_of left.now right.now
