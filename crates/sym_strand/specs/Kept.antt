-- What a DNA of which a part is not known keeps.
use Rattle.std.specs.Prelude.{◌≡◌, ℕ, ◌^◌, ◌≤◌, List, length}
use Rattle.sym_strand.specs.declared.segments.Seg.{Seg}
use Rattle.sym_strand.specs.Segments.{cells_of}
use Rattle.sym_strand.specs.Runs.{IsTidy}

-- the fewest segments, and the number of their cells
pub record IsKept (segs : List Seg) (len : ℕ) : Type 0 where
  pub length : len ≡ length (cells_of segs)
  pub most : len ≤ 2 ^ 41
  pub tidy : IsTidy segs
