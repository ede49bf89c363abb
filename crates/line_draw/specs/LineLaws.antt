-- What holds of every line.
use Rattle.std.specs.Prelude.{◌≡◌, ℕ, ◌+◌, ◌<◌, List, length, slice_index_or}
use Rattle.std.specs.List.{Contains}
use Rattle.canvas.specs.declared.pixel.Spot.{Spot}
use Rattle.canvas.specs.Pixels.{Rgba, IsInside, IsSquare}
use Rattle.line_draw.specs.Lines.{Point, IsLine, point_at, point_of, points, steps_of}

-- a list of points that goes along a line: one after each of 0 to d - 1 steps, and the last
pub record ArePoints (start stop : Spot) (list : List Point) : Type 0 where
  pub count : length list ≡ steps_of start stop + 1
  pub each : (k : ℕ) (p : Point) → k < steps_of start stop → slice_index_or list k p ≡ point_at start stop k
  pub last : (p : Point) → slice_index_or list (steps_of start stop) p ≡ point_of stop

-- each line has its points
abbrev pub PointsAlways : Type 0
PointsAlways = (start stop : Spot) → ArePoints start stop (points start stop)

-- and no other list of points
abbrev pub PointsOnce : Type 0
PointsOnce = (start stop : Spot) (list : List Point) → ArePoints start stop list → list ≡ points start stop

-- the points of a line between two spots of a bitmap are spots of that bitmap
abbrev pub PointsAreInside : Type 0
PointsAreInside =
    (side : ℕ) (start stop : Spot) (p : Point) → IsInside side start → IsInside side stop → Contains (points start stop) p
    → (s : Spot) × (IsInside side s × (p ≡ point_of s))

-- a bitmap, two spots and a pixel have a line
abbrev pub LinesAlways : Type 0
LinesAlways = (side : ℕ) (was : List Rgba) (start stop : Spot) (pixel : Rgba) → IsSquare side was → (now : List Rgba) × IsLine side was start stop pixel now

-- and no more than one
abbrev pub LinesAreEqual : Type 0
LinesAreEqual =
    (side : ℕ) (was first second : List Rgba) (start stop : Spot) (pixel : Rgba)
    → IsLine side was start stop pixel first → IsLine side was start stop pixel second → first ≡ second
