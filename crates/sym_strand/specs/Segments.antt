-- Segments, and the cells that they stand for.
use Rattle.std.specs.Prelude.{◌≡◌, ℕ, ◌-◌, ◌<◌, ◌≤◌, Some, List, length, map, slice_get}
use Rattle.std.specs.List.{flat_map}
use Rattle.sym_strand.specs.declared.cells.Cell.{Cell}
use Rattle.sym_strand.specs.declared.cells.Cell.TheVariants as cell
use Rattle.sym_strand.specs.declared.segments.Seg.{Seg}
use Rattle.sym_strand.specs.declared.segments.Seg.TheVariants.{Known, Target}
use Rattle.sym_strand.specs.Cells.{places_from}

-- the cells of a segment
abbrev pub cells_in : Seg → List Cell
cells_in (Known bases) = map cell.Known bases
cells_in (Target lo hi) = places_from lo (hi - lo)

-- the cells of segments, in order
abbrev pub cells_of : List Seg → List Cell
cells_of segs = flat_map cells_in segs

-- the fewest segments that stand for these cells in order; none of them is empty
pub record StandFor (segs : List Seg) (z : List Cell) : Type 0 where
  pub cells : cells_of segs ≡ z
  pub some : (k : ℕ) (seg : Seg) → slice_get segs k ≡ Some seg → 0 < length (cells_in seg)
  pub fewest : (others : List Seg) → cells_of others ≡ z → length segs ≤ length others
