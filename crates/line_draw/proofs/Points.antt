-- The points of a line, and what a line sets.
use Rattle.std.proofs.Common.{◌≡◌, ◌≢◌, ℕ, suc, ◌+◌, ◌-◌, ◌*◌, ◌/◌, ◌%◌, ◌<◌, ◌≤◌, ◌⊎◌, inl, inr, List, [], ◌∷◌, map, length, get_or, ℤ, pos, refl, sym, ap, ◌∙◌, subst, arith, length-append}
use Rattle.std.specs.List.{Contains, range_with_len}
use Rattle.std.proofs.Math.Nat.{mul-le-mul_left, mul-le-mul_right}
use Rattle.std.proofs.lemmas.Bool.{cases_lt}
use Rattle.std.proofs.lemmas.List.{get_or_append_left, get_or-append_right}
use Rattle.std.proofs.lemmas.List.FromFn.{get_or-map-range_with_len, length-map-range_with_len}
use Rattle.std.proofs.lemmas.Nat.{div-add-mod', div-mul-add}
use Rattle.canvas.specs.declared.pixel.Spot.{Spot}
use Rattle.canvas.specs.Pixels.{Rgba, IsSquare, pixel_at, with_pixel}
use Rattle.canvas.proofs.PixelLemmas.{cases_pixel, pixel_at-with_pixel, pixel_at-with_pixel_other, same_bitmaps}
use Rattle.canvas.proofs.SpotLemmas.{cases_spot, same_spot}
use Rattle.line_draw.specs.Lines.{Point, point_of, point_at, points, steps_of, half_of, coordinate_at, IsLine}
use Rattle.line_draw.specs.LineLaws.{LinesAreEqual}
use Rattle.line_draw.specs.Walks.{IsWalked, place_at, spot_at}
use Rattle.line_draw.proofs.Signs.{coordinate_is}

-- two drawings of one line
pub one_line : LinesAreEqual
one_line side was first second start stop pixel f g =
    same_bitmaps side first second f.square g.square (λ x y in_x in_y.
    let s : Spot = record { x = x; y = y } in
    elim (cases_pixel (pixel_at side first x y) (pixel_at side second x y)) [
      | inl same ↦ same
      | inr differ ↦
          let other : ¬ Contains (points start stop) (point_of s) = λ on. differ (f.set s in_x in_y on ∙ sym (g.set s in_x in_y on)) in
          absurd (differ (f.others s in_x in_y other ∙ sym (g.others s in_x in_y other)))
    ])

-- the spot of a point
same_from_point : (s t : Spot) → point_of s ≡ point_of t → s ≡ t
same_from_point s t e =
    let x : pos s.x ≡ pos t.x = ap (λ p. p.x) e in
    let y : pos s.y ≡ pos t.y = ap (λ p. p.y) e in
    same_spot s t (cc) (cc)

-- the points of a line, one after another
pub count_of_points : (start stop : Spot) → length (points start stop) ≡ steps_of start stop + 1
unfolding points
count_of_points start stop =
    omega (arith, length-append (map (point_at start stop) (range_with_len 0 (steps_of start stop))) (point_of stop ∷ []), length-map-range_with_len (point_at start stop) 0 (steps_of start stop))

pub nth_of : (start stop : Spot) (k : ℕ) (p : Point) → k < steps_of start stop → get_or (points start stop) k p ≡ point_at start stop k
unfolding points
nth_of start stop k p within =
    get_or_append_left (map (point_at start stop) (range_with_len 0 (steps_of start stop))) (point_of stop ∷ []) p k (omega (arith, length-map-range_with_len (point_at start stop) 0 (steps_of start stop)))
    ∙ get_or-map-range_with_len (point_at start stop) 0 (steps_of start stop) k k p within (omega arith)

pub last_of : (start stop : Spot) (p : Point) → get_or (points start stop) (steps_of start stop) p ≡ point_of stop
unfolding points
last_of start stop p =
    let d = steps_of start stop in
    let none : d - d ≡ 0 = omega arith in
    get_or-append_right (map (point_at start stop) (range_with_len 0 d)) (point_of stop ∷ []) d d p (length-map-range_with_len (point_at start stop) 0 d) (omega arith) ∙ ap (λ k. get_or (point_of stop ∷ []) k p) none

module _ (start stop : Spot) (d h : ℕ) (is_steps : d ≡ steps_of start stop) (is_half : 0 < d → half_of start stop ≡ pos h) where
  pub point_is : (k : ℕ) → k < d → point_at start stop k ≡ point_of (spot_at start stop d h k)
  point_is k within =
      let half = is_half (omega arith) in
      let made : ℤ → ℤ → Point = λ u v. record { x = u; y = v } in
      let x : coordinate_at (steps_of start stop) (half_of start stop) start.x stop.x k ≡ pos (place_at start.x stop.x d h k) = rw (half, ← is_steps) (coordinate_is d h start.x stop.x k (omega arith)) in
      let y : coordinate_at (steps_of start stop) (half_of start stop) start.y stop.y k ≡ pos (place_at start.y stop.y d h k) = rw (half, ← is_steps) (coordinate_is d h start.y stop.y k (omega arith)) in
      ap (λ u. made u (coordinate_at (steps_of start stop) (half_of start stop) start.y stop.y k)) x ∙ ap (λ v. made (pos (place_at start.x stop.x d h k)) v) y

  nth_point : (k : ℕ) (p : Point) → k < d → get_or (points start stop) k p ≡ point_of (spot_at start stop d h k)
  nth_point k p within = nth_of start stop k p (omega (arith, is_steps)) ∙ point_is k within

  last_point : (p : Point) → get_or (points start stop) d p ≡ point_of stop
  last_point p = rw is_steps (last_of start stop p)

  all_points : length (points start stop) ≡ d + 1
  all_points = count_of_points start stop ∙ ap (λ n. n + 1) (sym is_steps)

  -- a point is that after some step, or the last
  cases_point : (s : Spot) → Contains (points start stop) (point_of s) → ((k : ℕ) × (k < d) × (spot_at start stop d h k ≡ s)) ⊎ (stop ≡ s)
  cases_point s on =
      elim (cases_lt on.0 d) [
        | inl within ↦ inl (on.0, within, same_from_point (spot_at start stop d h on.0) s (sym (nth_point on.0 (point_of s) within) ∙ on.2))
        | inr past ↦
            let is_last : on.0 ≡ d = omega (arith, on.1, all_points) in
            let P : ℕ → Type 0 = λ k. get_or (points start stop) k (point_of s) ≡ point_of s in
            inr (same_from_point stop s (sym (last_point (point_of s)) ∙ subst P is_last on.2))
      ]

  -- the last point was set, and then those after each step
  pub line_from_walk : (side : ℕ) (was mid now : List Rgba) (pixel : Rgba) → IsSquare side was → IsSquare side now → stop.x < side → stop.y < side → mid ≡ with_pixel side was stop.x stop.y pixel → IsWalked side mid start stop d h d pixel now → IsLine side was start stop pixel now
  line_from_walk side was mid now pixel square square' in_x in_y set walked =
      let last : pixel_at side mid stop.x stop.y ≡ pixel = rw set (pixel_at-with_pixel side was stop.x stop.y pixel square in_x in_y) in
      record {
        square = square';
        set =
            λ s in_x' in_y' on.
            let P : Spot → Type 0 = λ q. pixel_at side now q.x q.y ≡ pixel in
            elim (cases_point s on) [
              | inl step ↦ subst P step.2 (walked.set step.0 step.1)
              | inr is_last ↦
                  subst P is_last (elim (cases_pixel (pixel_at side now stop.x stop.y) pixel) [
                    | inl same ↦ same
                    | inr differ ↦
                        let untouched : (k : ℕ) → k < d → spot_at start stop d h k ≡ stop → ⊥ = λ k within e. differ (subst P e (walked.set k within)) in
                        walked.others stop in_x in_y untouched ∙ last
                  ])
            ];
        others =
            λ s in_x' in_y' other.
            let untouched : (k : ℕ) → k < d → spot_at start stop d h k ≡ s → ⊥ = λ k within e. other (k, omega (arith, all_points), nth_point k (point_of s) within ∙ ap point_of e) in
            let differ : s.x ≡ stop.x → s.y ≡ stop.y → ⊥ = λ x y. other (d, omega (arith, all_points), last_point (point_of s) ∙ ap point_of (sym (same_spot s stop x y))) in
            walked.others s in_x' in_y' untouched ∙ rw set (pixel_at-with_pixel_other side was stop.x stop.y s.x s.y pixel in_x in_x' differ);
      }

-- a walk of no steps
pub walk_none : (side : ℕ) (was : List Rgba) (start stop : Spot) (d h : ℕ) (pixel : Rgba) → IsWalked side was start stop d h 0 pixel was
walk_none side was start stop d h pixel = record { set = λ k within. absurd (omega arith); others = λ s in_x in_y other. refl }

-- a walk of one step more
pub walk_more : (side : ℕ) (was now now' : List Rgba) (start stop : Spot) (d h n : ℕ) (pixel : Rgba) (s : Spot) → IsSquare side now → s.x < side → s.y < side → spot_at start stop d h n ≡ s → now' ≡ with_pixel side now s.x s.y pixel → IsWalked side was start stop d h n pixel now
    → ((k : ℕ) → k < n → let t = spot_at start stop d h k in (t.x < side) × (t.y < side)) → IsWalked side was start stop d h (n + 1) pixel now'
walk_more side was now now' start stop d h n pixel s square in_x in_y is_spot set walked inside =
    let here : pixel_at side now' s.x s.y ≡ pixel = rw set (pixel_at-with_pixel side now s.x s.y pixel square in_x in_y) in
    let P : Spot → Type 0 = λ q. pixel_at side now' q.x q.y ≡ pixel in
    let elsewhere : (t : Spot) → t.x < side → s ≢ t → pixel_at side now' t.x t.y ≡ pixel_at side now t.x t.y = λ t in_t differ. rw set (pixel_at-with_pixel_other side now s.x s.y t.x t.y pixel in_x in_t (λ x y. differ (same_spot s t (sym x) (sym y)))) in
    record {
      set =
          λ k within. elim (cases_spot s (spot_at start stop d h k)) [
            | inl same ↦ subst P same here
            | inr differ ↦
                elim (cases_lt k n) [
                  | inl before ↦ elsewhere (spot_at start stop d h k) (inside k before).0 differ ∙ walked.set k before
                  | inr now ↦ let is : n ≡ k = omega arith in absurd (differ (sym is_spot ∙ ap (spot_at start stop d h) is))
                ]
          ];
      others =
          λ t in_x' in_y' other.
          elsewhere t in_x' (λ e. other n (omega arith) (is_spot ∙ e)) ∙ walked.others t in_x' in_y' (λ k within. other k (omega arith));
    }

-- the coordinate that stands at a running rest
pub place_from_rest : (start stop d h k at rest : ℕ) → rest < d → at * d + rest + k * start ≡ start * d + h + k * stop → place_at start stop d h k ≡ at
place_from_rest start stop d h k at rest within is =
    let sums : start * d + h + k * stop - k * start ≡ at * d + rest = omega arith in
    ap (λ n. n / d) sums ∙ div-mul-add at d rest within

-- it stays between the ends
at_below : (start stop k e h m at rest : ℕ) → at * (k + e) + rest + k * start ≡ start * (k + e) + h + k * stop → h < k + e → start ≤ m → stop ≤ m → at < suc m
at_below start stop k e h m at rest is half in_start in_stop =
    elim (cases_lt m at) [
      | inl above ↦
          let more : suc m * (k + e) ≤ at * (k + e) = mul-le-mul_right (k + e) above in
          let first : e * start ≤ e * m = mul-le-mul_left e in_start in
          let second : k * stop ≤ k * m = mul-le-mul_left k in_stop in
          absurd (omega (arith, is, more, first, second, half))
      | inr below ↦ omega arith
    ]

pub at_inside : (start stop side d h k at rest : ℕ) → at * d + rest + k * start ≡ start * d + h + k * stop → h < d → k ≤ d → start < side → stop < side → at < side
at_inside start stop side d h k at rest is half le in_start in_stop =
    let e = d - k in
    let whole : d ≡ k + e = omega arith in
    let P : ℕ → Type 0 = λ n. at * n + rest + k * start ≡ start * n + h + k * stop in
    let below : at < suc (side - 1) = at_below start stop k e h (side - 1) at rest (subst P whole is) (omega arith) (omega arith) (omega arith) in
    omega arith

-- a step does not go below nothing
pub at_above : (start stop d h k at rest : ℕ) → at * d + rest + k * start ≡ start * d + h + k * stop → k < d → start ≤ at * d + rest + stop
at_above start stop d h k at rest is within =
    let enough : suc k * start ≤ d * start = mul-le-mul_right start within in
    omega (arith, is, enough)

pub walk_empty : (side : ℕ) (was : List Rgba) (start stop : Spot) (d h : ℕ) (pixel : Rgba) → d ≤ 0 → IsWalked side was start stop d h d pixel was
walk_empty side was start stop d h pixel none =
    let is : d ≡ 0 = omega arith in
    let P : ℕ → Type 0 = λ n. IsWalked side was start stop d h n pixel was in
    subst P (sym is) (walk_none side was start stop d h pixel)

-- each spot of a walk is between the ends
pub place_below : (start stop side d h k : ℕ) → h < d → k ≤ d → start < side → stop < side → place_at start stop d h k < side
place_below start stop side d h k half le in_start in_stop =
    let n = start * d + h + k * stop - k * start in
    let parts = div-add-mod' n d in
    let enough : k * start ≤ d * start = mul-le-mul_right start le in
    at_inside start stop side d h k (n / d) (n % d) (omega (arith, parts, enough)) half le in_start in_stop

-- the spot that stands at two running rests
pub spot_from_rests : (start stop s : Spot) (d h k x_rest y_rest : ℕ) → x_rest < d → y_rest < d → s.x * d + x_rest + k * start.x ≡ start.x * d + h + k * stop.x → s.y * d + y_rest + k * start.y ≡ start.y * d + h + k * stop.y → spot_at start stop d h k ≡ s
spot_from_rests start stop s d h k x_rest y_rest x_part y_part x_is y_is =
    same_spot (spot_at start stop d h k) s (place_from_rest start.x stop.x d h k s.x x_rest x_part x_is) (place_from_rest start.y stop.y d h k s.y y_rest y_part y_is)

-- a running rest one step on
pub rest_more : (start stop d h k at rest at' rest' a b s s' : ℕ) → a ≡ start → b ≡ stop → s ≡ d → s' ≡ d → at * d + rest + k * start ≡ start * d + h + k * stop → at' * s' + rest' + a ≡ at * s + rest + b → at' * d + rest' + (k + 1) * start ≡ start * d + h + (k + 1) * stop
rest_more start stop d h k at rest at' rest' a b s s' is_start is_stop is_steps is_steps' is moved = omega (arith, ap (λ n. at * n) is_steps, ap (λ n. at' * n) is_steps')
