-- What stands at a spot after a bitmap was changed, and when two bitmaps are equal.
use Rattle.std.proofs.Common.{◌≡◌, ◌≢◌, ℕ, ◌+◌, ◌*◌, ◌/◌, ◌%◌, ◌-◌, ◌<◌, ◌≤◌, ◌⊎◌, inl, inr, List, ◌++◌, length, take, drop, get_or, replicate, arith, sym, subst, ap, ◌∙◌, length-set, get_or-set_other, get_or-set_same, length-append}
use Rattle.std.proofs.lemmas.Grind.{common_steps, rows}
use Rattle.std.proofs.lemmas.Nat.{same_from_place, mul-add-lt}
use Rattle.std.proofs.lemmas.List.{ext_get_or, get_or-replicate, get_or-take, get_or-drop, get_or_append_left, get_or-append_right, length-drop, length-replicate, length-take-le}
use Rattle.std.proofs.Math.Nat.{mul-le-mul_right}
use Rattle.std.proofs.lemmas.Bool.{cases_eq, cases_lt, cases_order}
use Rattle.canvas.specs.Pixels.{Rgba, IsSquare, pixel_at, place_of, row_of, transparent, with_pixel, with_span}

-- a pixel by its channels
same_pixel : (p q : Rgba) → p.red ≡ q.red → p.green ≡ q.green → p.blue ≡ q.blue → p.alpha ≡ q.alpha → p ≡ q
same_pixel p q r g b a =
    let made : ℕ → ℕ → ℕ → ℕ → Rgba = λ r g b a. record { red = r; green = g; blue = b; alpha = a } in
    ap (λ k. made k p.green p.blue p.alpha) r ∙ (ap (λ k. made q.red k p.blue p.alpha) g ∙ (ap (λ k. made q.red q.green k p.alpha) b ∙ ap (λ k. made q.red q.green q.blue k) a))

-- two pixels are equal or not
pub cases_pixel : (p q : Rgba) → (p ≡ q) ⊎ (p ≢ q)
cases_pixel p q =
    elim (cases_eq p.red q.red) [
      | inr n ↦ inr (λ e. n (ap (λ c. c.red) e))
      | inl r ↦ elim (cases_eq p.green q.green) [
        | inr n ↦ inr (λ e. n (ap (λ c. c.green) e))
        | inl g ↦ elim (cases_eq p.blue q.blue) [
          | inr n ↦ inr (λ e. n (ap (λ c. c.blue) e))
          | inl b ↦ elim (cases_eq p.alpha q.alpha) [
            | inr n ↦ inr (λ e. n (ap (λ c. c.alpha) e))
            | inl a ↦ inl (same_pixel p q r g b a)
          ]
        ]
      ]
    ]

-- a spot's place stands in the list
pub place_inside : (side x y : ℕ) → x < side → y < side → place_of side x y < side * side
place_inside side x y in_x in_y = mul-add-lt y side x side in_y in_x

-- a set pixel is there
pub pixel_at-with_pixel : (side : ℕ) (pixels : List Rgba) (x y : ℕ) (p : Rgba) → IsSquare side pixels → x < side → y < side → pixel_at side (with_pixel side pixels x y p) x y ≡ p
pixel_at-with_pixel side pixels x y p square in_x in_y =
    get_or-set_same pixels (place_of side x y) p transparent
    (let inside : place_of side x y < side * side = place_inside side x y in_x in_y in omega (arith, square.filled))

-- every other pixel is as before
pub pixel_at-with_pixel_other : (side : ℕ) (pixels : List Rgba) (x y u v : ℕ) (p : Rgba) → x < side → u < side → (u ≡ x → v ≡ y → ⊥) → pixel_at side (with_pixel side pixels x y p) u v ≡ pixel_at side pixels u v
pixel_at-with_pixel_other side pixels x y u v p in_x in_u differ =
    get_or-set_other pixels (place_of side x y) (place_of side u v) p transparent
    (λ same. let where_both = same_from_place v u y x side in_u in_x same in differ where_both.1 where_both.0)

-- a bitmap with a pixel set is a bitmap
pub IsSquare-with_pixel : (side : ℕ) (pixels : List Rgba) (x y : ℕ) (p : Rgba) → IsSquare side pixels → IsSquare side (with_pixel side pixels x y p)
IsSquare-with_pixel side pixels x y p square =
    record { nonempty = square.nonempty; small = square.small; filled = length-set pixels (place_of side x y) p ∙ square.filled }

-- two bitmaps of one side that agree at each spot are equal
pub same_bitmaps : (side : ℕ) (pixels others : List Rgba) → IsSquare side pixels → IsSquare side others → ((x y : ℕ) → x < side → y < side → pixel_at side pixels x y ≡ pixel_at side others x y) → pixels ≡ others
same_bitmaps side pixels others square square' agree =
    ext_get_or transparent pixels others (square.filled ∙ sym square'.filled)
    (λ i inside.
    let positive : 0 < side = omega (arith, square.nonempty) in
    let in_x : i % side < side = grind arith in
    let in_y : i / side < side = grind (arith, common_steps, rows, square.filled) in
    let there : (i / side) * side + i % side ≡ i = grind (arith, common_steps, rows) in
    let agreed = agree (i % side) (i / side) in_x in_y in
    rw there at agreed)

-- what stands at a place of a list of which n items from a on were replaced
get_or-span_before : (xs : List Rgba) (a n i : ℕ) (p d : Rgba) → a + n ≤ length xs → i < a → get_or (take a xs ++ (replicate n p ++ drop (a + n) xs)) i d ≡ get_or xs i d
get_or-span_before xs a n i p d inside before =
    let long : i < length (take a xs) = omega (arith, length-take-le a xs (omega arith)) in
    get_or_append_left (take a xs) (replicate n p ++ drop (a + n) xs) d i long ∙ get_or-take a xs i d before

get_or-span_in : (xs : List Rgba) (a n i : ℕ) (p d : Rgba) → a + n ≤ length xs → a ≤ i → i < a + n → get_or (take a xs ++ (replicate n p ++ drop (a + n) xs)) i d ≡ p
get_or-span_in xs a n i p d inside from to =
    let within : i - a < n = omega arith in
    let long : i - a < length (replicate n p) = omega (arith, length-replicate n p) in
    get_or-append_right (take a xs) (replicate n p ++ drop (a + n) xs) a i d (length-take-le a xs (omega arith)) from
    ∙ get_or_append_left (replicate n p) (drop (a + n) xs) d (i - a) long ∙ get_or-replicate n (i - a) p d within

get_or-span_after : (xs : List Rgba) (a n i : ℕ) (p d : Rgba) → a + n ≤ length xs → a + n ≤ i → get_or (take a xs ++ (replicate n p ++ drop (a + n) xs)) i d ≡ get_or xs i d
get_or-span_after xs a n i p d inside after =
    let from : a ≤ i = omega arith in
    let past : n ≤ i - a = omega arith in
    let there : a + n + (i - a - n) ≡ i = omega arith in
    get_or-append_right (take a xs) (replicate n p ++ drop (a + n) xs) a i d (length-take-le a xs (omega arith)) from
    ∙ get_or-append_right (replicate n p) (drop (a + n) xs) n (i - a) d (length-replicate n p) past ∙ get_or-drop (a + n) xs (i - a - n) d ∙ ap (λ k. get_or xs k d) there

-- a row ends where the next begins, and the last one ends with the list
row_inside : (side x y : ℕ) → x ≤ side → y < side → place_of side x y ≤ side * side
row_inside side x y in_x in_y =
    let next : y + 1 ≤ side = omega arith in
    omega (arith, mul-le-mul_right side next)

-- a row is before each later one
row_before : (side x y v : ℕ) → x ≤ side → y < v → place_of side x y ≤ v * side
row_before side x y v in_x later =
    let next : y + 1 ≤ v = omega arith in
    omega (arith, mul-le-mul_right side next)

-- the end of a span, from its start
span_stop : (side y start stop : ℕ) → start ≤ stop → place_of side stop y ≡ place_of side start y + (stop - start)
span_stop side y start stop order = omega arith

-- a span that was set is there
pub pixel_at-with_span : (side : ℕ) (pixels : List Rgba) (y start stop x : ℕ) (p : Rgba) → IsSquare side pixels → y < side → start ≤ x → x < stop → stop ≤ side → pixel_at side (with_span side pixels y start stop p) x y ≡ p
pixel_at-with_span side pixels y start stop x p square in_y from to in_x =
    let a = place_of side start y in
    let n = stop - start in
    let ends = span_stop side y start stop (omega arith) in
    let inside : a + n ≤ length pixels = omega (arith, ends, row_inside side stop y in_x in_y, square.filled) in
    let P : ℕ → Type 0 = λ k. get_or (take a pixels ++ (replicate n p ++ drop k pixels)) (place_of side x y) transparent ≡ p in
    subst P (sym ends) (get_or-span_in pixels a n (place_of side x y) p transparent inside (omega arith) (omega arith))

-- a spot outside of a span is before it or behind it
span_apart : (side y start stop u v : ℕ) → start ≤ stop → stop ≤ side → u < side → (v ≡ y → start ≤ u → u < stop → ⊥) → (place_of side u v < place_of side start y) ⊎ (place_of side start y + (stop - start) ≤ place_of side u v)
span_apart side y start stop u v order in_x in_u outside =
    elim (cases_order v y) [
      | inl same ↦ elim (cases_lt u start) [
        | inl west ↦ inl (omega (arith, ap (λ k. k * side) same))
        | inr from ↦ elim (cases_lt u stop) [
          | inl within ↦ absurd (outside same from within)
          | inr east ↦ inr (omega (arith, ap (λ k. k * side) same))
        ]
      ]
      | inr other ↦ elim other [
        | inl north ↦ inl (omega (arith, row_before side (u + 1) v y (omega arith) north))
        | inr south ↦ inr (omega (arith, row_before side stop y v in_x south))
      ]
    ]

-- every pixel outside of the span is as before
pub pixel_at-with_span_other : (side : ℕ) (pixels : List Rgba) (y start stop u v : ℕ) (p : Rgba) → IsSquare side pixels → y < side → start ≤ stop → stop ≤ side → u < side → (v ≡ y → start ≤ u → u < stop → ⊥) → pixel_at side (with_span side pixels y start stop p) u v ≡ pixel_at side pixels u v
pixel_at-with_span_other side pixels y start stop u v p square in_y order in_x in_u outside =
    let a = place_of side start y in
    let n = stop - start in
    let i = place_of side u v in
    let ends = span_stop side y start stop order in
    let inside : a + n ≤ length pixels = omega (arith, ends, row_inside side stop y in_x in_y, square.filled) in
    let P : ℕ → Type 0 = λ k. get_or (take a pixels ++ (replicate n p ++ drop k pixels)) i transparent ≡ get_or pixels i transparent in
    let before : i < a → P (a + n) = get_or-span_before pixels a n i p transparent inside in
    let after : a + n ≤ i → P (a + n) = get_or-span_after pixels a n i p transparent inside in
    let apart : (i < a) ⊎ (a + n ≤ i) = span_apart side y start stop u v order in_x in_u outside in
    subst P (sym ends) (elim apart [ inl first ↦ before first | inr last ↦ after last ])

-- a bitmap with a span set is a bitmap
pub IsSquare-with_span : (side : ℕ) (pixels : List Rgba) (y start stop : ℕ) (p : Rgba) → IsSquare side pixels → y < side → start ≤ stop → stop ≤ side → IsSquare side (with_span side pixels y start stop p)
IsSquare-with_span side pixels y start stop p square in_y order in_x =
    let a = place_of side start y in
    let ends = span_stop side y start stop order in
    let inside = row_inside side stop y in_x in_y in
    record {
      nonempty = square.nonempty;
      small = square.small;
      filled =
          length-append (take a pixels) (replicate (stop - start) p ++ drop (place_of side stop y) pixels)
          ∙ omega (arith, length-take-le a pixels (omega (arith, square.filled)), length-append (replicate (stop - start) p) (drop (place_of side stop y) pixels), length-replicate (stop - start) p, length-drop (place_of side stop y) pixels, square.filled);
    }

-- the pixel at (x, y) stands at x in its row
pub row_of-pixel : (side : ℕ) (pixels : List Rgba) (x y : ℕ) → x < side → get_or (row_of side pixels y) x transparent ≡ pixel_at side pixels x y
row_of-pixel side pixels x y in_x = get_or-take side (drop (y * side) pixels) x transparent in_x ∙ get_or-drop (y * side) pixels x transparent
