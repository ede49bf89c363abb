-- Walks, regions and fills, in the words of the contest's chapter on images.
use Rattle.std.specs.Prelude.{◌≡◌, ℕ, ◌+◌, ◌⊎◌, List, [], ◌∷◌, Option, Some, None}
use Rattle.std.specs.List.{All}
use Rattle.canvas.specs.declared.pixel.Spot.{Spot}
use Rattle.canvas.specs.Pixels.{Rgba, IsInside, IsSquare, pixel_at}

-- the pixel at a spot
abbrev pub pixel_of : ℕ → List Rgba → Spot → Rgba
pixel_of side pixels s = pixel_at side pixels s.x s.y

-- two numbers that differ by one
abbrev pub DifferByOne : ℕ → ℕ → Type 0
DifferByOne m n = (m + 1 ≡ n) ⊎ (n + 1 ≡ m)

-- two spots that differ by one in exactly one coordinate
abbrev pub AreNeighbours : Spot → Spot → Type 0
AreNeighbours s t = ((s.x ≡ t.x) × DifferByOne s.y t.y) ⊎ ((s.y ≡ t.y) × DifferByOne s.x t.x)

-- a list of spots of which each two that follow one another are neighbours
abbrev pub AreSteps : List Spot → Type 0
AreSteps [] = Unit {0}
AreSteps (s ∷ []) = Unit {0}
AreSteps (s ∷ t ∷ rest) = AreNeighbours s t × AreSteps (t ∷ rest)

-- the first spot and the last one
abbrev pub first_of : List Spot → Option Spot
first_of [] = None
first_of (s ∷ rest) = Some s

abbrev pub last_of : List Spot → Option Spot
last_of [] = None
last_of (s ∷ []) = Some s
last_of (s ∷ t ∷ rest) = last_of (t ∷ rest)

-- a walk over a bitmap from one spot to another: by steps, and all its spots hold pixels equal to the first's
pub record IsWalk (side : ℕ) (pixels : List Rgba) (start stop : Spot) (walk : List Spot) : Type 0 where
  pub starts : first_of walk ≡ Some start
  pub stops : last_of walk ≡ Some stop
  pub steps : AreSteps walk
  pub inside : All (IsInside side) walk
  pub alike : All (λ s. pixel_of side pixels s ≡ pixel_of side pixels start) walk

-- a spot of the region of another: it ends a walk from there
pub record IsInRegion (side : ℕ) (pixels : List Rgba) (start s : Spot) : Type 0 where
  pub walk : List Spot
  pub is_walk : IsWalk side pixels start s walk

-- a fill sets the pixels of the region of a spot, and no others
pub record IsFill (side : ℕ) (was : List Rgba) (spot : Spot) (pixel : Rgba) (now : List Rgba) : Type 0 where
  pub square : IsSquare side now
  pub region : (s : Spot) → IsInRegion side was spot s → pixel_of side now s ≡ pixel
  pub others :
      (s : Spot) → IsInside side s → ¬ IsInRegion side was spot s
      → pixel_of side now s ≡ pixel_of side was s
