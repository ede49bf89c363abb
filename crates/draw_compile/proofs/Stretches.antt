-- The line from the east end of a stretch of a row to its west end.
use Rattle.std.proofs.Common.{◌≡◌, ℕ, ◌+◌, ◌-◌, ◌/◌, ◌<◌, ◌≤◌, inl, inr, List, length, get_or, pos, max, refl, sym, ap, ◌∙◌, subst, arith}
use Rattle.std.specs.List.{Contains}
use Rattle.std.proofs.lemmas.Bool.{cases_lt}
use Rattle.canvas.specs.declared.pixel.Spot.{Spot}
use Rattle.canvas.specs.Pixels.{IsSquare, Rgba, pixel_at, with_span}
use Rattle.canvas.proofs.PixelLemmas.{IsSquare-with_span, pixel_at-with_span, pixel_at-with_span_other}
use Rattle.canvas.proofs.SpotLemmas.{same_spot}
use Rattle.line_draw.specs.Lines.{IsLine, Point, half_of, point_of, points, steps_of}
use Rattle.line_draw.specs.Walks.{spot_at}
use Rattle.line_draw.proofs.Points.{count_of_points, last_of, nth_of, place_from_rest, point_is}
use Rattle.line_draw.proofs.Signs.{bias_other, half_is, steps_are}

abbrev pub spot : ℕ → ℕ → Spot
spot x y = record { x = x; y = y }

steps-of : (x k y : ℕ) → steps_of (spot (x + k) y) (spot x y) ≡ k
steps-of x k y =
    let across : (x + k - x) + (x - (x + k)) ≡ k = omega arith in
    let down : (y - y) + (y - y) ≡ 0 = omega arith in
    steps_are (spot (x + k) y) (spot x y) ∙ ap (λ n. max n ((y - y) + (y - y))) across ∙ ap (max k) down ∙ omega arith

half-of : (x k y : ℕ) → 0 < k → half_of (spot (x + k) y) (spot x y) ≡ pos ((k - 1) / 2)
half-of x k y some =
    half_is (spot (x + k) y) (spot x y) k 1 ((k - 1) / 2) (sym (steps-of x k y)) (sym (bias_other (spot (x + k) y) (spot x y) (λ h. omega arith) (λ h. omega arith))) (omega arith) refl

-- the spot after some steps, so many from the last
spot-after : (x y i j h : ℕ) → h < i + j → spot_at (spot (x + (i + j)) y) (spot x y) (i + j) h j ≡ spot (x + i) y
spot-after x y i j h half =
    same_spot (spot_at (spot (x + (i + j)) y) (spot x y) (i + j) h j) (spot (x + i) y)
    (place_from_rest (x + (i + j)) x (i + j) h j (x + i) h half (omega arith))
    (place_from_rest y y (i + j) h j y h half (omega arith))

module _ (x k y : ℕ) where
  line_points : List Point
  line_points = points (spot (x + k) y) (spot x y)

  length-points : length line_points ≡ k + 1
  unfolding line_points
  length-points = count_of_points (spot (x + k) y) (spot x y) ∙ ap (λ n. n + 1) (steps-of x k y)

  nth-point : (i j : ℕ) (p : Point) → i + j ≡ k → 0 < i → get_or line_points j p ≡ point_of (spot (x + i) y)
  unfolding line_points
  nth-point i j p is some =
      let h : ℕ = (k - 1) / 2 in
      let half : h < i + j = omega arith in
      let step : spot_at (spot (x + k) y) (spot x y) k h j ≡ spot (x + i) y =
      subst (λ n. spot_at (spot (x + n) y) (spot x y) n h j ≡ spot (x + i) y) is (spot-after x y i j h half) in
      nth_of (spot (x + k) y) (spot x y) j p (omega (arith, steps-of x k y))
      ∙ point_is (spot (x + k) y) (spot x y) k h (sym (steps-of x k y)) (half-of x k y) j (omega arith)
      ∙ ap point_of step

  last-point : (p : Point) → get_or line_points k p ≡ point_of (spot x y)
  unfolding line_points
  last-point p = ap (λ n. get_or (points (spot (x + k) y) (spot x y)) n p) (sym (steps-of x k y)) ∙ last_of (spot (x + k) y) (spot x y) p

  -- each spot of the stretch is a point of the line
  on-line : (s : Spot) → s.y ≡ y → x ≤ s.x → s.x ≤ x + k → Contains line_points (point_of s)
  on-line s row from to =
      let i : ℕ = s.x - x in
      elim (cases_lt 0 i) [
        | inl some ↦
            (k - i, omega (arith, length-points), nth-point i (k - i) (point_of s) (omega arith) some ∙ ap point_of (same_spot (spot (x + i) y) s (omega arith) (sym row)))
        | inr none ↦
            (k, omega (arith, length-points), last-point (point_of s) ∙ ap point_of (same_spot (spot x y) s (omega arith) (sym row)))
      ]

  -- a spot is on the stretch
  abbrev IsOn : Spot → Type 0
  IsOn s = (s.y ≡ y) × (x ≤ s.x) × (s.x ≤ x + k)

  on-from-point : (s : Spot) (at : ℕ) → x ≤ at → at ≤ x + k → point_of (spot at y) ≡ point_of s → IsOn s
  on-from-point s at from to is =
      let across : pos at ≡ pos s.x = ap (λ p. p.x) is in
      let down : pos y ≡ pos s.y = ap (λ p. p.y) is in
      let column : at ≡ s.x = cc in
      let row : y ≡ s.y = cc in
      (sym row, omega arith, omega arith)

  -- and no others
  only-line : (s : Spot) → Contains line_points (point_of s) → IsOn s
  only-line s on =
      let j = on.0 in
      elim (cases_lt j k) [
        | inl before ↦ on-from-point s (x + (k - j)) (omega arith) (omega arith) (sym (nth-point (k - j) j (point_of s) (omega arith) (omega arith)) ∙ on.2)
        | inr past ↦
            let last : j ≡ k = omega (arith, on.1, length-points) in
            on-from-point s x (omega arith) (omega arith) (sym (last-point (point_of s)) ∙ ap (λ n. get_or line_points n (point_of s)) (sym last) ∙ on.2)
      ]

  -- so the line sets that stretch
  pub line_is_stretch : (side stop : ℕ) (was : List Rgba) (pixel : Rgba) → IsSquare side was → stop ≡ x + k + 1 → stop ≤ side → y < side
      → IsLine side was (spot (x + k) y) (spot x y) pixel (with_span side was y x stop pixel)
  unfolding line_points
  line_is_stretch side stop was pixel square is in_x in_y = record {
    square = IsSquare-with_span side was y x stop pixel square in_y (omega arith) in_x;
    set =
        λ s inside_x inside_y on.
        let there = only-line s on in
        ap (λ v. pixel_at side (with_span side was y x stop pixel) s.x v) there.0
        ∙ pixel_at-with_span side was y x stop s.x pixel square in_y there.1 (omega (arith, there.2)) in_x;
    others =
        λ s inside_x inside_y none.
        pixel_at-with_span_other side was y x stop s.x s.y pixel square in_y (omega arith) in_x inside_x
        (λ row from to. none (on-line s row from (omega arith)));
  }
