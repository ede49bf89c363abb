-- A fill that has come some way.
use Rattle.std.specs.Prelude.{◌≡◌, ◌≢◌, ℕ, ◌+◌, ◌<◌, ◌≤◌, ◌⊎◌, ◌==◌, ◌&&◌, Bool, cond, List, [], ◌∷◌, length}
use Rattle.canvas.specs.declared.pixel.Spot.{Spot}
use Rattle.canvas.specs.Pixels.{Rgba, IsInside}
use Rattle.flood.specs.declared.span.Span.{Span}
use Rattle.flood.specs.Region.{pixel_of, DifferByOne, IsInRegion}
use Rattle.flood.specs.Spans.{IsSpanOf}

-- a spot of a span
abbrev pub Covers : Span → Spot → Type 0
Covers span s = (s.y ≡ span.y) × (span.start ≤ s.x) × (s.x < span.stop)

-- a spot of one of some spans
abbrev pub IsListed : List Span → Spot → Type 0
IsListed [] s = ⊥
IsListed (span ∷ rest) s = Covers span s ⊎ IsListed rest s

-- the longest span of a pixel that has this spot
pub record IsRun (side : ℕ) (pixels : List Rgba) (pixel : Rgba) (spot : Spot) (run : Span) : Type 0 where
  pub is_span : IsSpanOf side run
  pub covers : Covers run spot
  pub alike : (s : Spot) → Covers run s → pixel_of side pixels s ≡ pixel
  pub west : (s : Spot) → s.y ≡ run.y → s.x + 1 ≡ run.start → pixel_of side pixels s ≢ pixel
  pub east : (s : Spot) → s.y ≡ run.y → s.x ≡ run.stop → run.stop < side → pixel_of side pixels s ≢ pixel

-- a spot of the region that was set
pub record IsSet (side : ℕ) (was : List Rgba) (spot : Spot) (pixel : Rgba) (now : List Rgba) (s : Spot) : Type 0 where
  pub inside : IsInside side s
  pub region : IsInRegion side was spot s
  pub set : pixel_of side now s ≡ pixel

-- part of a fill: spots of the region alone were set, and with each of them its row as far as it
-- goes; what has still to be set to the north or south of a set spot is found from a listed span
pub record IsPartOfFill (side : ℕ) (was : List Rgba) (spot : Spot) (pixel : Rgba) (now : List Rgba) (spans : List Span) : Type 0 where
  pub kept : (s : Spot) → IsInside side s → (pixel_of side now s ≡ pixel_of side was s) ⊎ IsSet side was spot pixel now s
  pub rows : (s t : Spot) → IsSet side was spot pixel now s → IsInside side t → s.y ≡ t.y → DifferByOne s.x t.x → pixel_of side now t ≢ pixel_of side was spot
  pub columns : (s t : Spot) → IsSet side was spot pixel now s → IsInside side t → s.x ≡ t.x → DifferByOne s.y t.y → pixel_of side now t ≡ pixel_of side was spot → IsListed spans s
  pub listed : (s : Spot) → IsListed spans s → IsSet side was spot pixel now s

-- whether two pixels are equal
abbrev pub is_equal : Rgba → Rgba → Bool
is_equal p q = (p.red == q.red) && ((p.green == q.green) && ((p.blue == q.blue) && (p.alpha == q.alpha)))

-- how many pixels are equal to one
unfoldable pub count_of : Rgba → List Rgba → ℕ
count_of p [] = 0
count_of p (q ∷ rest) = cond (is_equal p q) 1 0 + count_of p rest

-- what a fill has left: pixels that it may set, and spans that it has to look at
abbrev pub work_left : Rgba → List Rgba → List Span → ℕ
work_left from now spans = count_of from now + length spans

-- two spans of neighbouring rows, with the same columns
pub record AreAdjacent (span other : Span) : Type 0 where
  pub start : span.start ≡ other.start
  pub stop : span.stop ≡ other.stop
  pub rows : DifferByOne span.y other.y

-- from one state of each fill to a later one: the pixels and the listed spans
pub record Continues (side : ℕ) (from to : Rgba) (now : List Rgba) (spans : List Span) (now' : List Rgba) (spans' : List Span) : Type 0 where
  pub fewer : (s : Spot) → IsInside side s → pixel_of side now' s ≡ from → pixel_of side now s ≡ from
  pub part : (was : List Rgba) (spot : Spot) → pixel_of side was spot ≡ from → IsPartOfFill side was spot to now spans → IsPartOfFill side was spot to now' spans'

-- no spot of a row, as far as a span goes, holds a pixel
abbrev pub IsClearIn : ℕ → List Rgba → Rgba → Span → ℕ → Type 0
IsClearIn side now from span y = (s t : Spot) → Covers span s → IsInside side t → s.x ≡ t.x → t.y ≡ y → pixel_of side now t ≢ from
