-- Cells from a place on, as far as they are of one kind.
use Rattle.std.specs.Prelude.{◌≡◌, ◌-◌, ◌<◌, List, ◌++◌, length, drop, map}
use Rattle.sym_strand.specs.declared.cells.Cell.{Cell}
use Rattle.sym_strand.specs.declared.cells.Cell.TheVariants as cell
use Rattle.sym_strand.specs.Cells.{places_from}
use Rattle.cell_rope.specs.declared.stretches.Stretch.{Stretch}
use Rattle.cell_rope.specs.declared.stretches.Stretch.TheVariants.{Known, Target}

-- the cells of a stretch
abbrev pub cells_along : Stretch → List Cell
cells_along (Known strand from) = map cell.Known (drop from strand.now.bases)
cells_along (Target lo hi) = places_from lo (hi - lo)

-- the cells from a place on begin with those of a stretch, of which there are some
pub record BeginsWith (z : List Cell) (stretch : Stretch) : Type 0 where
  pub some : 0 < length (cells_along stretch)
  pub rest : List Cell
  pub cells : z ≡ cells_along stretch ++ rest
