-- Lines by numbers with a sign, and by numbers without.
use Rattle.std.proofs.Common.{◌≡◌, ℕ, zero, suc, ◌+◌, ◌-◌, ◌*◌, ◌/◌, ◌<◌, ◌≤◌, inl, inr, true, false, pos, negsuc, ◌+ℤ◌, ◌*ℤ◌, neg_ℤ, max, refl, sym, ap, ◌∙◌, arith}
use Rattle.std.specs.Prelude.{int_le, unsigned_abs, if◌then◌else◌}
use Rattle.std.specs.Int.{abs_diff}
use Rattle.std.proofs.Math.IntN.{zero-*ℤ}
use Rattle.std.proofs.lemmas.Bool.{cases_lt, cases_order, le-leb, lt-leb}
use Rattle.std.proofs.lemmas.Int.{ints}
use Rattle.std.proofs.lemmas.Nat.{mul-le}
use Rattle.canvas.specs.declared.pixel.Spot.{Spot}
use Rattle.line_draw.specs.Lines.{delta_of, steps_of, bias_of, half_of, coordinate_at}
use Rattle.line_draw.specs.Walks.{place_at}

-- from one coordinate to a later one, and to an earlier one
delta_up : (a b e : ℕ) → b ≡ a + e → delta_of a b ≡ pos e
delta_up a b e is = omega (arith, ints)

delta_down : (a b e : ℕ) → a ≡ b + suc e → delta_of a b ≡ negsuc e
delta_down a b e is = omega (arith, ints)

-- how far two coordinates are apart
abs_delta : (a b : ℕ) → unsigned_abs (delta_of a b) ≡ (a - b) + (b - a)
abs_delta a b =
    elim (cases_lt b a) [
      | inl down ↦ let delta = delta_down a b (a - b - 1) (omega arith) in rw delta (omega arith)
      | inr up ↦ let delta = delta_up a b (b - a) (omega arith) in rw delta (omega arith)
    ]

pub steps_are : (start stop : Spot) → steps_of start stop ≡ max ((start.x - stop.x) + (stop.x - start.x)) ((start.y - stop.y) + (stop.y - start.y))
unfolding steps_of
steps_are start stop = rw (abs_delta start.x stop.x, abs_delta start.y stop.y) refl

-- a number less another that is no larger
pos_minus : (n m : ℕ) → m ≤ n → pos n +ℤ neg_ℤ (pos m) ≡ pos (n - m)
pos_minus n zero le = omega (arith, ints)
pos_minus n (suc m) le = omega (arith, ints)

pub half_is : (start stop : Spot) (d c h : ℕ) → d ≡ steps_of start stop → c ≡ bias_of start stop → c ≤ d → h ≡ (d - c) / 2 → half_of start stop ≡ pos h
unfolding half_of
half_is start stop d c h is_steps is_bias le is =
    let less = pos_minus d c le in
    rw (← is_steps, ← is_bias, less, is) refl

-- a coordinate after some steps
coordinate_up : (d h a b k e : ℕ) → b ≡ a + e → coordinate_at d (pos h) a b k ≡ pos (place_at a b d h k)
coordinate_up d h a b k e is =
    let delta = delta_up a b e is in
    let product : k * b ≡ k * a + k * e = omega (arith, ap (λ n. k * n) is) in
    let sums : a * d + h + k * e ≡ a * d + h + k * b - k * a = omega (arith, product) in
    rw delta (ap (λ n. pos (n / d)) sums)

coordinate_down : (d h a b k e : ℕ) → a ≡ b + suc e → k ≤ d → coordinate_at d (pos h) a b k ≡ pos (place_at a b d h k)
coordinate_down d h a b k e is le =
    let delta = delta_down a b e is in
    let product : k * a ≡ k * b + k * suc e = omega (arith, ap (λ n. k * n) is) in
    let enough : k * suc e ≤ d * a = mul-le k (suc e) d a le (omega arith) in
    let less = pos_minus (a * d + h) (k * suc e) (omega (arith, enough)) in
    let sums : a * d + h - k * suc e ≡ a * d + h + k * b - k * a = omega (arith, product) in
    rw (delta, less) (ap (λ n. pos (n / d)) sums)

pub coordinate_is : (d h a b k : ℕ) → k ≤ d → coordinate_at d (pos h) a b k ≡ pos (place_at a b d h k)
coordinate_is d h a b k le =
    elim (cases_lt b a) [
      | inl down ↦ coordinate_down d h a b k (a - b - 1) (omega arith) le
      | inr up ↦ coordinate_up d h a b k (b - a) (omega arith)
    ]

-- the sign of a product
neg_below : (n : ℕ) → int_le (neg_ℤ (pos n)) (pos 0) ≡ true
neg_below zero = refl
neg_below (suc n) = refl

above_none : (e f : ℕ) → int_le (pos (suc e * suc f)) (pos 0) ≡ false
above_none e f = lt-leb (suc e * suc f) 0 (omega arith)

pub bias_southeast : (start stop : Spot) → start.x < stop.x → start.y < stop.y → bias_of start stop ≡ 0
unfolding bias_of
bias_southeast start stop x y =
    let dx = delta_up start.x stop.x (suc (stop.x - start.x - 1)) (omega arith) in
    let dy = delta_up start.y stop.y (suc (stop.y - start.y - 1)) (omega arith) in
    rw (dx, dy, above_none (stop.x - start.x - 1) (stop.y - start.y - 1)) refl

pub bias_northwest : (start stop : Spot) → stop.x < start.x → stop.y < start.y → bias_of start stop ≡ 0
unfolding bias_of
bias_northwest start stop x y =
    let dx = delta_down start.x stop.x (start.x - stop.x - 1) (omega arith) in
    let dy = delta_down start.y stop.y (start.y - stop.y - 1) (omega arith) in
    rw (dx, dy, above_none (start.x - stop.x - 1) (start.y - stop.y - 1)) refl

-- a product of numbers of which one is none, or one is below and the other above
product_below : (a b u v : ℕ) → (a < b → v ≤ u) → (b < a → u ≤ v) → int_le (delta_of a b *ℤ delta_of u v) (pos 0) ≡ true
product_below a b u v up down =
    elim (cases_order a b) [
      | inl same ↦ let dx = delta_up a b 0 (omega arith) in rw (dx, zero-*ℤ (delta_of u v)) refl
      | inr other ↦ elim other [
        | inl east ↦
            let dx = delta_up a b (suc (b - a - 1)) (omega arith) in
            elim (cases_lt v u) [
              | inl north ↦ let dy = delta_down u v (u - v - 1) (omega arith) in rw (dx, dy) (neg_below (suc (b - a - 1) * suc (u - v - 1)))
              | inr south ↦ let dy = delta_up u v 0 (omega (arith, up east)) in rw (dx, dy) (le-leb (suc (b - a - 1) * 0) 0 (omega arith))
            ]
        | inr west ↦
            let dx = delta_down a b (a - b - 1) (omega arith) in
            let dy = delta_up u v (v - u) (omega (arith, down west)) in
            rw (dx, dy) (neg_below (suc (a - b - 1) * (v - u)))
      ]
    ]

pub bias_other : (start stop : Spot) → (start.x < stop.x → stop.y ≤ start.y) → (stop.x < start.x → start.y ≤ stop.y) → bias_of start stop ≡ 1
unfolding bias_of
bias_other start stop up down = rw (product_below start.x stop.x start.y stop.y up down) refl

pub bias_small : (start stop : Spot) → bias_of start stop ≤ 1
unfolding bias_of
bias_small start stop =
    elim (int_le (delta_of start.x stop.x *ℤ delta_of start.y stop.y) (pos 0)) as (λ b. (if b then 1 else 0) ≤ 1) [ true ↦ omega arith | false ↦ omega arith ]

pub steps_from : (start stop : Spot) (d u v : ℕ) → d ≡ max u v → u ≡ abs_diff start.x stop.x → v ≡ abs_diff start.y stop.y → d ≡ steps_of start stop
steps_from start stop d u v is x y = is ∙ (rw (x, y) (sym (steps_are start stop)))
