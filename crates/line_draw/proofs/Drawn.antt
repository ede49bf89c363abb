-- Each bitmap has a line: one of its points after another is set.
use Rattle.std.proofs.Common.{◌≡◌, ℕ, zero, suc, ◌<◌, ◌⊎◌, inl, inr, List, [], ◌∷◌, length, refl, sym, ap, ◌∙◌, arith}
use Rattle.std.specs.Prelude.{ℤ, pos, negsuc, slice_index_or}
use Rattle.std.specs.List.{Contains}
use Rattle.std.proofs.lemmas.Bool.{cases_lt}
use Rattle.canvas.specs.declared.pixel.Spot.{Spot}
use Rattle.canvas.specs.Pixels.{Rgba, IsInside, IsSquare, pixel_at, with_pixel}
use Rattle.canvas.proofs.Decided.{Decided, both}
use Rattle.canvas.proofs.PixelLemmas.{IsSquare-with_pixel, pixel_at-with_pixel, pixel_at-with_pixel_other}
use Rattle.canvas.proofs.SpotLemmas.{same_place}
use Rattle.line_draw.specs.Lines.{Point, IsLine, point_of, points}

split_contains : (p : Point) (rest : List Point) (q : Point) (k : ℕ) → k < length (p ∷ rest) → slice_index_or (p ∷ rest) k q ≡ q → (p ≡ q) ⊎ Contains rest q
split_contains p rest q zero within is = inl is
split_contains p rest q (suc k) within is = inr (k, omega arith, is)

below : (m n : ℕ) → Decided (m < n)
below m n = elim (cases_lt m n) [ inl yes_below ↦ inl yes_below | inr above ↦ inr (λ h. omega arith) ]

-- a point is a spot of the bitmap, or of none
abbrev SpotOrNone : ℕ → Point → Type 0
SpotOrNone side p = ((s : Spot) × (IsInside side s × (p ≡ point_of s))) ⊎ ((s : Spot) → IsInside side s → ¬ (p ≡ point_of s))

abbrev point : ℤ → ℤ → Point
point x y = record { x = x; y = y }

same_pos : (a b : ℕ) → pos a ≡ pos b → a ≡ b
same_pos a b e = cc

no_pos : (a b : ℕ) → negsuc a ≡ pos b → ⊥
no_pos a b e = cc

spot_or_none : (side : ℕ) (x y : ℤ) → SpotOrNone side (point x y)
spot_or_none side (pos a) (pos b) =
    elim (both (a < side) (b < side) (below a side) (below b side)) [
      | inl inside ↦ inl (record { x = a; y = b }, (inside, refl))
      | inr out ↦ inr (λ s inside is. let e : a ≡ s.x = same_pos a s.x (ap (λ p. p.x) is) in let f : b ≡ s.y = same_pos b s.y (ap (λ p. p.y) is) in out (omega (arith, inside.0), omega (arith, inside.1)))
    ]
spot_or_none side (pos a) (negsuc b) = inr (λ s inside is. no_pos b s.y (ap (λ p. p.y) is))
spot_or_none side (negsuc a) y = inr (λ s inside is. no_pos a s.x (ap (λ p. p.x) is))

-- these points are set, and no others
record AreSet (side : ℕ) (was : List Rgba) (ps : List Point) (pixel : Rgba) (now : List Rgba) : Type 0 where
  square : IsSquare side now
  set : (s : Spot) → s.x < side → s.y < side → Contains ps (point_of s) → pixel_at side now s.x s.y ≡ pixel
  others : (s : Spot) → s.x < side → s.y < side → ¬ Contains ps (point_of s) → pixel_at side now s.x s.y ≡ pixel_at side was s.x s.y

-- one point more, that is a spot
set_spot : (side : ℕ) (was : List Rgba) (p : Point) (rest : List Point) (pixel : Rgba) (now : List Rgba) (at : Spot) → IsInside side at → p ≡ point_of at → AreSet side was rest pixel now → AreSet side was (p ∷ rest) pixel (with_pixel side now at.x at.y pixel)
set_spot side was p rest pixel now at inside is done = record {
  square = IsSquare-with_pixel side now at.x at.y pixel done.square;
  set = λ s in_x in_y has. elim (same_place at s) [
    | inl same ↦ rw (← same.0, ← same.1) (pixel_at-with_pixel side now at.x at.y pixel done.square inside.0 inside.1)
    | inr other ↦ pixel_at-with_pixel_other side now at.x at.y s.x s.y pixel inside.0 in_x (λ x y. other (sym x, sym y)) ∙ elim (split_contains p rest (point_of s) has.0 has.1 has.2) [
      | inl first ↦ let e = sym is ∙ first in absurd (other (same_pos at.x s.x (ap (λ q. q.x) e), same_pos at.y s.y (ap (λ q. q.y) e)))
      | inr later ↦ done.set s in_x in_y later
    ]
  ];
  others = λ s in_x in_y none. elim (same_place at s) [
    | inl same ↦ absurd (none (0, omega arith, is ∙ ap (λ k. point (pos k) (pos at.y)) same.0 ∙ ap (λ k. point (pos s.x) (pos k)) same.1))
    | inr other ↦ pixel_at-with_pixel_other side now at.x at.y s.x s.y pixel inside.0 in_x (λ x y. other (sym x, sym y)) ∙ done.others s in_x in_y (λ has. none (suc has.0, omega (arith, has.1), has.2))
  ];
}

-- one point more, that is none
set_none : (side : ℕ) (was : List Rgba) (p : Point) (rest : List Point) (pixel : Rgba) (now : List Rgba) → ((s : Spot) → IsInside side s → ¬ (p ≡ point_of s)) → AreSet side was rest pixel now → AreSet side was (p ∷ rest) pixel now
set_none side was p rest pixel now out done = record {
  square = done.square;
  set = λ s in_x in_y has. elim (split_contains p rest (point_of s) has.0 has.1 has.2) [ inl first ↦ absurd (out s (in_x, in_y) first) | inr later ↦ done.set s in_x in_y later ];
  others = λ s in_x in_y none. done.others s in_x in_y (λ has. none (suc has.0, omega (arith, has.1), has.2));
}

set_all : (side : ℕ) (was : List Rgba) (ps : List Point) (pixel : Rgba) → IsSquare side was → (now : List Rgba) × AreSet side was ps pixel now
set_all side was [] pixel square = (was, record { square = square; set = λ s in_x in_y has. absurd (omega (arith, has.1)); others = λ s in_x in_y none. refl })
set_all side was (p ∷ rest) pixel square =
    let done = set_all side was rest pixel square in
    elim (spot_or_none side p.x p.y) [
      | inl at ↦ (with_pixel side done.0 at.0.x at.0.y pixel, set_spot side was p rest pixel done.0 at.0 at.1.0 at.1.1 done.1)
      | inr out ↦ (done.0, set_none side was p rest pixel done.0 out done.1)
    ]

pub a_line : (side : ℕ) (was : List Rgba) (start stop : Spot) (pixel : Rgba) → IsSquare side was → (now : List Rgba) × IsLine side was start stop pixel now
a_line side was start stop pixel square =
    let done = set_all side was (points start stop) pixel square in
    (done.0, record { square = done.1.square; set = done.1.set; others = done.1.others })
