-- What holds of every region and of every fill.
use Rattle.std.specs.Prelude.{◌≡◌, ℕ, ◌⊎◌, List}
use Rattle.canvas.specs.declared.pixel.Spot.{Spot}
use Rattle.canvas.specs.Pixels.{Rgba, IsInside, IsSquare}
use Rattle.flood.specs.Region.{IsFill, IsInRegion, pixel_of}

-- each spot of a bitmap is of the region of another, or it is not
abbrev pub RegionsAreDecided : Type 0
RegionsAreDecided =
    (side : ℕ) (was : List Rgba) (spot s : Spot) → IsSquare side was → IsInside side spot → IsInside side s
    → IsInRegion side was spot s ⊎ ¬ IsInRegion side was spot s

-- a spot is of its own region
abbrev pub RegionsBegin : Type 0
RegionsBegin = (side : ℕ) (was : List Rgba) (spot : Spot) → IsInside side spot → IsInRegion side was spot spot

-- a region has spots of the bitmap alone, with equal pixels
abbrev pub RegionsAreAlike : Type 0
RegionsAreAlike =
    (side : ℕ) (was : List Rgba) (spot s : Spot) → IsInRegion side was spot s
    → IsInside side s × (pixel_of side was s ≡ pixel_of side was spot)

-- a bitmap, a spot and a pixel have a fill
abbrev pub FillsAlways : Type 0
FillsAlways =
    (side : ℕ) (was : List Rgba) (spot : Spot) (pixel : Rgba) → IsSquare side was → IsInside side spot
    → (now : List Rgba) × IsFill side was spot pixel now

-- and no more than one
abbrev pub FillsAreEqual : Type 0
FillsAreEqual =
    (side : ℕ) (was first second : List Rgba) (spot : Spot) (pixel : Rgba)
    → IsFill side was spot pixel first → IsFill side was spot pixel second → first ≡ second
