-- Each bitmap has a fill: one spot of the region after another is set, until none is left.
use Rattle.std.proofs.Common.{◌≡◌, ◌≢◌, ℕ, zero, suc, ◌+◌, ◌≤◌, ◌⊎◌, inl, inr, List, refl, sym, subst, ap, ◌∙◌, arith}
use Rattle.canvas.specs.declared.pixel.Spot.{Spot}
use Rattle.canvas.specs.Pixels.{Rgba, IsInside, IsSquare, with_span}
use Rattle.canvas.proofs.Decided.{Decided, Some_below, both, either, same_number, search_below}
use Rattle.canvas.proofs.PixelLemmas.{cases_pixel, IsSquare-with_span, pixel_at-with_span, pixel_at-with_span_other}
use Rattle.canvas.proofs.SpotLemmas.{same_place, same_spot}
use Rattle.flood.specs.Region.{AreNeighbours, DifferByOne, IsFill, IsInRegion, pixel_of}
use Rattle.flood.specs.FillLaws.{FillsAlways, RegionsAreDecided}
use Rattle.flood.specs.Filling.{count_of}
use Rattle.flood.proofs.Counts.{count_of-with_span}
use Rattle.flood.proofs.Regions.{in_region, region_alike, region_here, region_more}

-- one spot set
abbrev with_spot : ℕ → List Rgba → Spot → Rgba → List Rgba
with_spot side pixels s p = with_span side pixels s.y s.x (s.x + 1) p

set_there : (side : ℕ) (pixels : List Rgba) (s t : Spot) (p : Rgba) → IsSquare side pixels → IsInside side s → t.x ≡ s.x → t.y ≡ s.y → pixel_of side (with_spot side pixels s p) t ≡ p
set_there side pixels s t p square inside same_x same_y =
    rw (same_x, same_y) (pixel_at-with_span side pixels s.y s.x (s.x + 1) s.x p square inside.1 (omega arith) (omega arith) (omega (arith, inside.0)))

set_elsewhere : (side : ℕ) (pixels : List Rgba) (s t : Spot) (p : Rgba) → IsSquare side pixels → IsInside side s → IsInside side t → ¬ ((t.x ≡ s.x) × (t.y ≡ s.y)) → pixel_of side (with_spot side pixels s p) t ≡ pixel_of side pixels t
set_elsewhere side pixels s t p square inside in_t other =
    pixel_at-with_span_other side pixels s.y s.x (s.x + 1) t.x t.y p square inside.1 (omega arith) (omega (arith, inside.0)) in_t.0 (λ row from to. other (omega arith, row))

set_square : (side : ℕ) (pixels : List Rgba) (s : Spot) (p : Rgba) → IsSquare side pixels → IsInside side s → IsSquare side (with_spot side pixels s p)
set_square side pixels s p square inside = IsSquare-with_span side pixels s.y s.x (s.x + 1) p square inside.1 (omega arith) (omega (arith, inside.0))

-- some spots of the region are set
record IsGrown (side : ℕ) (was : List Rgba) (spot : Spot) (to : Rgba) (now : List Rgba) : Type 0 where
  square : IsSquare side now
  here : pixel_of side now spot ≡ to
  kept : (s : Spot) → IsInside side s → (pixel_of side now s ≡ pixel_of side was s) ⊎ (IsInRegion side was spot s × (pixel_of side now s ≡ to))

-- a spot of the region that was set, and a neighbour that is still to be set
abbrev IsEdge : ℕ → List Rgba → List Rgba → Rgba → Rgba → Spot → Spot → Type 0
IsEdge side was now from to s t = AreNeighbours s t × ((pixel_of side was s ≡ from) × ((pixel_of side now s ≡ to) × (pixel_of side now t ≡ from)))

abbrev IsClosed : ℕ → List Rgba → List Rgba → Rgba → Rgba → Type 0
IsClosed side was now from to = (s t : Spot) → IsInside side s → IsInside side t → ¬ IsEdge side was now from to s t

by_one : (m n : ℕ) → Decided (DifferByOne m n)
by_one m n = either (m + 1 ≡ n) (n + 1 ≡ m) (same_number (m + 1) n) (same_number (n + 1) m)

near : (s t : Spot) → Decided (AreNeighbours s t)
near s t =
    either ((s.x ≡ t.x) × DifferByOne s.y t.y) ((s.y ≡ t.y) × DifferByOne s.x t.x)
    (both (s.x ≡ t.x) (DifferByOne s.y t.y) (same_number s.x t.x) (by_one s.y t.y))
    (both (s.y ≡ t.y) (DifferByOne s.x t.x) (same_number s.y t.y) (by_one s.x t.x))

edge : (side : ℕ) (was now : List Rgba) (from to : Rgba) (s t : Spot) → Decided (IsEdge side was now from to s t)
edge side was now from to s t =
    both (AreNeighbours s t) ((pixel_of side was s ≡ from) × ((pixel_of side now s ≡ to) × (pixel_of side now t ≡ from))) (near s t)
    (both (pixel_of side was s ≡ from) ((pixel_of side now s ≡ to) × (pixel_of side now t ≡ from)) (cases_pixel (pixel_of side was s) from)
    (both (pixel_of side now s ≡ to) (pixel_of side now t ≡ from) (cases_pixel (pixel_of side now s) to) (cases_pixel (pixel_of side now t) from)))

abbrev at : ℕ → ℕ → Spot
at x y = record { x = x; y = y }

-- an edge, or none
find_edge : (side : ℕ) (was now : List Rgba) (from to : Rgba) → ((s : Spot) × ((t : Spot) × (IsInside side s × (IsInside side t × IsEdge side was now from to s t)))) ⊎ IsClosed side was now from to
find_edge side was now from to =
    let E : ℕ → ℕ → ℕ → ℕ → Type 0 = λ a b x y. IsEdge side was now from to (at a b) (at x y) in
    let found = search_below side (λ a. Some_below side (λ b. Some_below side (λ x. Some_below side (E a b x))))
    (λ a. search_below side (λ b. Some_below side (λ x. Some_below side (E a b x)))
    (λ b. search_below side (λ x. Some_below side (E a b x))
    (λ x. search_below side (E a b x) (λ y. edge side was now from to (at a b) (at x y))))) in
    elim found [
      | inl h ↦ inl (at h.0 h.1.1.0, (at h.1.1.1.1.0 h.1.1.1.1.1.1.0, ((h.1.0, h.1.1.1.0), ((h.1.1.1.1.1.0, h.1.1.1.1.1.1.1.0), h.1.1.1.1.1.1.1.1))))
      | inr none ↦ inr (λ s t in_s in_t e. none (s.x, (in_s.0, (s.y, (in_s.1, (t.x, (in_t.0, (t.y, (in_t.1, e)))))))))
    ]

-- one spot more
grow_at : (side : ℕ) (was now : List Rgba) (spot : Spot) (to : Rgba) (s t : Spot) → IsInside side spot → pixel_of side was spot ≢ to → IsInside side s → IsInside side t → IsEdge side was now (pixel_of side was spot) to s t → IsGrown side was spot to now
    → IsGrown side was spot to (with_spot side now t to) × (count_of (pixel_of side was spot) (with_spot side now t to) + 1 ≤ count_of (pixel_of side was spot) now)
grow_at side was now spot to s t inside differ in_s in_t e g =
    let from = pixel_of side was spot in
    let s_in : IsInRegion side was spot s = elim (g.kept s in_s) [ inl same ↦ absurd (differ (sym e.1.0 ∙ sym same ∙ e.1.1.0)) | inr set ↦ set.0 ] in
    let t_was : pixel_of side was t ≡ from = elim (g.kept t in_t) [ inl same ↦ sym same ∙ e.1.1.1 | inr set ↦ absurd (differ (sym e.1.1.1 ∙ set.1)) ] in
    let t_in : IsInRegion side was spot t = region_more side was spot s t s_in e.0 in_t t_was in
    let R : Spot → Type 0 = λ q. IsInRegion side was spot q in (
      record {
        square = set_square side now t to g.square in_t;
        here = elim (same_place spot t) [ inl same ↦ set_there side now t spot to g.square in_t same.0 same.1 | inr other ↦ set_elsewhere side now t spot to g.square in_t inside other ∙ g.here ];
        kept = λ u in_u. elim (same_place u t) [
          | inl same ↦ inr (subst R (sym (same_spot u t same.0 same.1)) t_in, set_there side now t u to g.square in_t same.0 same.1)
          | inr other ↦ let as_was = set_elsewhere side now t u to g.square in_t in_u other in
              elim (g.kept u in_u) [ inl same ↦ inl (as_was ∙ same) | inr set ↦ inr (set.0, as_was ∙ set.1) ]
        ];
      },
      count_of-with_span side now from to (record { y = t.y; start = t.x; stop = t.x + 1 }) differ g.square (record { row = in_t.1; nonempty = omega arith; inside = omega (arith, in_t.0) }) e.1.1.1,
    )

-- until no edge is left
grow : (n side : ℕ) (was now : List Rgba) (spot : Spot) (to : Rgba) → IsInside side spot → pixel_of side was spot ≢ to → count_of (pixel_of side was spot) now ≤ n → IsGrown side was spot to now
    → (end : List Rgba) × (IsGrown side was spot to end × IsClosed side was end (pixel_of side was spot) to)
grow zero side was now spot to inside differ few g =
    elim (find_edge side was now (pixel_of side was spot) to) [
      | inl e ↦ let more = grow_at side was now spot to e.0 e.1.0 inside differ e.1.1.0 e.1.1.1.0 e.1.1.1.1 g in absurd (omega (arith, more.1, few))
      | inr closed ↦ (now, (g, closed))
    ]
grow (suc n) side was now spot to inside differ few g =
    elim (find_edge side was now (pixel_of side was spot) to) [
      | inl e ↦ let more = grow_at side was now spot to e.0 e.1.0 inside differ e.1.1.0 e.1.1.1.0 e.1.1.1.1 g in
          grow n side was (with_spot side now e.1.0 to) spot to inside differ (omega (arith, more.1, few)) more.0
      | inr closed ↦ (now, (g, closed))
    ]

-- a bitmap that was grown to the end is filled
filled : (side : ℕ) (was now : List Rgba) (spot : Spot) (to : Rgba) → pixel_of side was spot ≢ to → IsInside side spot → IsGrown side was spot to now → IsClosed side was now (pixel_of side was spot) to → IsFill side was spot to now
filled side was now spot to differ inside g closed =
    let from = pixel_of side was spot in
    let P : Spot → Type 0 = λ s. IsInside side s × ((pixel_of side was s ≡ from) × (pixel_of side now s ≡ to)) in
    let step : (s t : Spot) → P s → AreNeighbours s t → IsInside side t → pixel_of side was t ≡ from → P t = λ s t p step_near in_t t_was.
    (in_t, (t_was, elim (g.kept t in_t) [ inl same ↦ absurd (closed s t p.0 in_t (step_near, (p.1.0, (p.1.1, same ∙ t_was)))) | inr set ↦ set.1 ])) in
    record {
      square = g.square;
      region = λ s region. (in_region side was spot P (inside, (refl, g.here)) step s region).1.1;
      others = λ s in_s out. elim (g.kept s in_s) [ inl same ↦ same | inr set ↦ absurd (out set.0) ];
    }

-- the region of a spot is set, for a pixel that differs
fill_grown : (side : ℕ) (was : List Rgba) (spot : Spot) (to : Rgba) → IsSquare side was → IsInside side spot → pixel_of side was spot ≢ to
    → (end : List Rgba) × (IsGrown side was spot to end × IsClosed side was end (pixel_of side was spot) to)
fill_grown side was spot to square inside differ =
    let R : Spot → Type 0 = λ q. IsInRegion side was spot q in
    let first = with_spot side was spot to in
    let g : IsGrown side was spot to first = record {
      square = set_square side was spot to square inside;
      here = set_there side was spot spot to square inside refl refl;
      kept = λ u in_u. elim (same_place u spot) [
        | inl same ↦ inr (subst R (sym (same_spot u spot same.0 same.1)) (region_here side was spot inside), set_there side was spot u to square inside same.0 same.1)
        | inr other ↦ inl (set_elsewhere side was spot u to square inside in_u other)
      ];
    } in
    grow (count_of (pixel_of side was spot) first) side was first spot to inside differ (omega arith) g

pub a_fill : FillsAlways
a_fill side was spot to square inside =
    elim (cases_pixel (pixel_of side was spot) to) [
      | inl same ↦ (was, record { square = square; region = λ s region. region_alike side was spot s region ∙ same; others = λ s in_s out. refl })
      | inr differ ↦
          let end = fill_grown side was spot to square inside differ in
          (end.0, filled side was end.0 spot to differ inside end.1.0 end.1.1)
    ]

-- a pixel that differs from another
other_than : Rgba → Rgba
other_than p = record { red = suc p.red; green = p.green; blue = p.blue; alpha = p.alpha }

differs : (p : Rgba) → p ≢ other_than p
unfolding other_than
differs p e =
    let red : p.red ≡ suc p.red = ap (λ q. q.red) e in
    omega arith

-- a fill shows which spots are of the region
pub region_decided : RegionsAreDecided
region_decided side was spot s square inside in_s =
    let from = pixel_of side was spot in
    let to = other_than from in
    let end = fill_grown side was spot to square inside (differs from) in
    elim (end.1.0.kept s in_s) [
      | inr set ↦ inl set.0
      | inl same ↦ inr (λ region.
          let fill = filled side was end.0 spot to (differs from) inside end.1.0 end.1.1 in
          differs from (sym (region_alike side was spot s region) ∙ sym same ∙ fill.region s region))
    ]
