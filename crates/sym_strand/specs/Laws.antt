-- What holds of cells and the segments that stand for them.
use Rattle.std.specs.Prelude.{◌≡◌, List}
use Rattle.sym_strand.specs.declared.cells.Cell.{Cell}
use Rattle.sym_strand.specs.declared.segments.Seg.{Seg}
use Rattle.sym_strand.specs.Segments.{StandFor}

-- each list of cells has segments
abbrev pub HasSegments : Type 0
HasSegments = (z : List Cell) → (segs : List Seg) × StandFor segs z

-- and the fewest are one list
abbrev pub SegmentsAreOne : Type 0
SegmentsAreOne = (z : List Cell) (a b : List Seg) → StandFor a z → StandFor b z → a ≡ b
