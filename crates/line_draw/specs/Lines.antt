-- Lines, in the words of the contest's chapter on images: over numbers with a sign, each point by
-- two divisions of its own.
use Rattle.std.specs.Prelude.{◌≡◌, ℕ, ◌<◌, max, ℤ, pos, ◌+ℤ◌, ◌-ℤ◌, ◌*ℤ◌, int_le, unsigned_abs, if◌then◌else◌, List, [], ◌∷◌, ◌++◌, map}
use Rattle.std.specs.Int.{int_div_euclid}
use Rattle.std.specs.List.{Contains, range_with_len}
use Rattle.canvas.specs.declared.pixel.Spot.{Spot}
use Rattle.canvas.specs.Pixels.{Rgba, IsSquare, pixel_at}

-- a point of the plane
pub record Point : Type 0 where
  pub x : ℤ
  pub y : ℤ

-- the point of a spot
abbrev pub point_of : Spot → Point
point_of s = record { x = pos s.x; y = pos s.y }

-- how far it is from one coordinate to another
abbrev pub delta_of : ℕ → ℕ → ℤ
delta_of start stop = pos stop -ℤ pos start

-- d: the longer side of a line
unfoldable pub steps_of : Spot → Spot → ℕ
steps_of start stop = max (unsigned_abs (delta_of start.x stop.x)) (unsigned_abs (delta_of start.y stop.y))

-- c: 1 where one coordinate does not go the way of the other
unfoldable pub bias_of : Spot → Spot → ℕ
bias_of start stop = if int_le (delta_of start.x stop.x *ℤ delta_of start.y stop.y) (pos 0) then 1 else 0

-- half of d - c, rounded down
unfoldable pub half_of : Spot → Spot → ℤ
half_of start stop = int_div_euclid (pos (steps_of start stop) -ℤ pos (bias_of start stop)) (pos 2)

-- a coordinate after k of d steps, rounded down
abbrev pub coordinate_at : ℕ → ℤ → ℕ → ℕ → ℕ → ℤ
coordinate_at d half start stop k = int_div_euclid (pos start *ℤ pos d +ℤ half +ℤ pos k *ℤ delta_of start stop) (pos d)

-- the point after k steps
abbrev pub point_at : Spot → Spot → ℕ → Point
point_at start stop k =
    let d = steps_of start stop in
    let half = half_of start stop in
    record { x = coordinate_at d half start.x stop.x k; y = coordinate_at d half start.y stop.y k }

-- the points of a line: those after 0 to d - 1 steps, and the last
unfoldable pub points : Spot → Spot → List Point
points start stop = map (point_at start stop) (range_with_len 0 (steps_of start stop)) ++ point_of stop ∷ []

-- drawing a line sets the pixels at its points, and no others
pub record IsLine (side : ℕ) (was : List Rgba) (start stop : Spot) (pixel : Rgba) (now : List Rgba) : Type 0 where
  pub square : IsSquare side now
  pub set :
      (s : Spot) → s.x < side → s.y < side → Contains (points start stop) (point_of s)
      → pixel_at side now s.x s.y ≡ pixel
  pub others :
      (s : Spot) → s.x < side → s.y < side → ¬ Contains (points start stop) (point_of s)
      → pixel_at side now s.x s.y ≡ pixel_at side was s.x s.y
