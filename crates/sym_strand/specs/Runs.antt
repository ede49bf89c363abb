-- Runs of cells that one segment can stand for, and segments of which there are as many.
use Rattle.std.specs.Prelude.{◌≡◌, ℕ, ◌+◌, ◌-◌, ◌<◌, ◌==◌, cond, List, [], ◌∷◌, ◌++◌, length, take, drop, Option, MatchOption}
use Rattle.sym_strand.specs.declared.cells.Cell.{Cell}
use Rattle.sym_strand.specs.declared.cells.Cell.TheVariants.{Known, Target}
use Rattle.sym_strand.specs.declared.segments.Seg.{Seg}
use Rattle.sym_strand.specs.Segments.{cells_in, cells_of}

-- how many runs two neighbours add: none where one segment can hold both
abbrev pub breaks : Cell → Cell → ℕ
breaks (Known b) (Known c) = 0
breaks (Known b) (Target q) = 1
breaks (Target p) (Known c) = 1
breaks (Target p) (Target q) = cond (p + 1 == q) 0 1

-- how many runs there are
abbrev pub runs : List Cell → ℕ
runs [] = 0
runs (c ∷ []) = 1
runs (c ∷ next ∷ z) = breaks c next + runs (next ∷ z)

-- there are as many segments as runs
pub record IsTidy (segs : List Seg) : Type 0 where
  pub number : length segs ≡ runs (cells_of segs)

-- one segment stands for two, or none can
abbrev pub IsJoint : Seg → Seg → Option Seg → Type 0
IsJoint last first joint =
    0 < length (cells_in last) → 0 < length (cells_in first)
    → MatchOption joint (runs (cells_in last ++ cells_in first) ≡ 2) (λ seg. cells_in seg ≡ cells_in last ++ cells_in first)

-- the segments that come of two lists with one in the place of the two that meet
abbrev pub seamed : List Seg → List Seg → Seg → List Seg
seamed segs more seam = take (length segs - 1) segs ++ seam ∷ drop 1 more

-- one segment in the place of the two that meet leaves the cells as they are
pub record IsSeam (segs more : List Seg) (seam : Seg) : Type 0 where
  pub last : 0 < length segs
  pub first : 0 < length more
  pub cells : cells_of (seamed segs more seam) ≡ cells_of segs ++ cells_of more
  pub tidy : IsTidy (seamed segs more seam)
