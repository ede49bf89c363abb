-- Walks and regions, and that a fill has one outcome.
use Rattle.std.proofs.Common.{◌≡◌, ℕ, suc, inl, inr, List, [], ◌∷◌, ◌++◌, Some, refl, sym, subst, ◌∙◌, arith}
use Rattle.std.specs.List.{All}
use Rattle.std.proofs.lemmas.List.Elements.{All-push}
use Rattle.canvas.specs.declared.pixel.Spot.{Spot}
use Rattle.canvas.specs.Pixels.{Rgba, IsInside}
use Rattle.canvas.proofs.PixelLemmas.{cases_pixel, same_bitmaps}
use Rattle.flood.specs.Region.{pixel_of, AreNeighbours, AreSteps, first_of, last_of, IsInRegion}
use Rattle.flood.specs.FillLaws.{FillsAreEqual}

-- a walk with one spot more
first_more : (walk : List Spot) (start t : Spot) → first_of walk ≡ Some start → first_of (walk ++ t ∷ []) ≡ Some start
first_more [] start t starts = cc
first_more (s ∷ rest) start t starts = starts

last_more : (walk : List Spot) (t : Spot) → last_of (walk ++ t ∷ []) ≡ Some t
last_more [] t = refl
last_more (s ∷ []) t = refl
last_more (s ∷ u ∷ rest) t = last_more (u ∷ rest) t

steps_more : (walk : List Spot) (stop t : Spot) → AreSteps walk → last_of walk ≡ Some stop → AreNeighbours stop t → AreSteps (walk ++ t ∷ [])
steps_more [] stop t steps stops near = tt
steps_more (s ∷ []) stop t steps stops near =
    let same : stop ≡ s = cc in
    let P : Spot → Type 0 = λ q. AreNeighbours q t in
    (subst P same near, tt)
steps_more (s ∷ u ∷ rest) stop t steps stops near = (steps.0, steps_more (u ∷ rest) stop t steps.1 stops near)

none : (P : Spot → Type 0) → All P []
none P = λ k d within. absurd (omega arith)

-- a spot is in its own region
pub region_here : (side : ℕ) (pixels : List Rgba) (s : Spot) → IsInside side s → IsInRegion side pixels s s
region_here side pixels s inside = record {
  walk = s ∷ [];
  is_walk = record {
    starts = refl;
    stops = refl;
    steps = tt;
    inside = All-push (IsInside side) [] s (none _) inside;
    alike = All-push (λ q. pixel_of side pixels q ≡ pixel_of side pixels s) [] s (none _) refl;
  };
}

-- a region goes on over a step to an equal pixel
pub region_more : (side : ℕ) (pixels : List Rgba) (start s t : Spot) → IsInRegion side pixels start s → AreNeighbours s t → IsInside side t → pixel_of side pixels t ≡ pixel_of side pixels start → IsInRegion side pixels start t
region_more side pixels start s t region near inside alike =
    let w = region.walk in
    let is = region.is_walk in
    record {
      walk = w ++ t ∷ [];
      is_walk = record {
        starts = first_more w start t is.starts;
        stops = last_more w t;
        steps = steps_more w s t is.steps is.stops near;
        inside = All-push (IsInside side) w t is.inside inside;
        alike = All-push (λ q. pixel_of side pixels q ≡ pixel_of side pixels start) w t is.alike alike;
      };
    }

-- what holds at the first spot of a walk and goes on over each step holds at the last
along : (side : ℕ) (pixels : List Rgba) (pixel : Rgba) (P : Spot → Type 0) → ((s t : Spot) → P s → AreNeighbours s t → IsInside side t → pixel_of side pixels t ≡ pixel → P t)
    → (walk : List Spot) (s stop : Spot) → first_of walk ≡ Some s → last_of walk ≡ Some stop → AreSteps walk → All (IsInside side) walk → All (λ t. pixel_of side pixels t ≡ pixel) walk → P s → P stop
along side pixels pixel P step [] s stop starts stops steps inside alike here = absurd (let no : ⊥ = cc in no)
along side pixels pixel P step (a ∷ []) s stop starts stops steps inside alike here =
    let same : s ≡ stop = cc in
    subst P same here
along side pixels pixel P step (a ∷ b ∷ rest) s stop starts stops steps inside alike here =
    let same : s ≡ a = cc in
    let there = step a b (subst P same here) steps.0 (inside 1 b (omega arith)) (alike 1 b (omega arith)) in
    along side pixels pixel P step (b ∷ rest) b stop refl stops steps.1 (λ k d within. inside (suc k) d (omega arith)) (λ k d within. alike (suc k) d (omega arith)) there

-- what holds at a spot and goes on over each step to an equal pixel holds in the spot's region
pub in_region : (side : ℕ) (pixels : List Rgba) (start : Spot) (P : Spot → Type 0) → P start → ((s t : Spot) → P s → AreNeighbours s t → IsInside side t → pixel_of side pixels t ≡ pixel_of side pixels start → P t) → (s : Spot) → IsInRegion side pixels start s → P s
in_region side pixels start P here step s region =
    let is = region.is_walk in
    along side pixels (pixel_of side pixels start) P step region.walk start s is.starts is.stops is.steps is.inside is.alike here

-- the first spot of a walk is of the bitmap
first_inside : (side : ℕ) (walk : List Spot) (start : Spot) → first_of walk ≡ Some start → All (IsInside side) walk → IsInside side start
first_inside side [] start starts inside = absurd (let no : ⊥ = cc in no)
first_inside side (s ∷ rest) start starts inside =
    let same : s ≡ start = cc in
    subst (IsInside side) same (inside 0 s (omega arith))

-- a region is of the bitmap
region_inside : (side : ℕ) (pixels : List Rgba) (start s : Spot) → IsInRegion side pixels start s → IsInside side s
region_inside side pixels start s region =
    let is = region.is_walk in
    in_region side pixels start (IsInside side) (first_inside side region.walk start is.starts is.inside) (λ a b here near inside alike. inside) s region

-- a region has equal pixels
pub region_alike : (side : ℕ) (pixels : List Rgba) (start s : Spot) → IsInRegion side pixels start s → pixel_of side pixels s ≡ pixel_of side pixels start
region_alike side pixels start s region = in_region side pixels start (λ q. pixel_of side pixels q ≡ pixel_of side pixels start) refl (λ a b here near inside alike. alike) s region

-- a region is of the bitmap, and has equal pixels
pub region_part : (side : ℕ) (pixels : List Rgba) (start s : Spot) → IsInRegion side pixels start s → IsInside side s × (pixel_of side pixels s ≡ pixel_of side pixels start)
region_part side pixels start s region = (region_inside side pixels start s region, region_alike side pixels start s region)

-- two fills of one bitmap
pub one_fill : FillsAreEqual
one_fill side was first second spot pixel f g =
    same_bitmaps side first second f.square g.square (λ x y in_x in_y.
    let s : Spot = record { x = x; y = y } in
    elim (cases_pixel (pixel_of side first s) (pixel_of side second s)) [
      | inl same ↦ same
      | inr differ ↦
          let outside : ¬ IsInRegion side was spot s = λ region. differ (f.region s region ∙ sym (g.region s region)) in
          absurd (differ (f.others s (in_x, in_y) outside ∙ sym (g.others s (in_x, in_y) outside)))
    ])
