-- The average of a pixel's inks is the pixel.
use Rattle.std.proofs.Common.{◌≡◌, ℕ, zero, suc, ◌+◌, ◌-◌, ◌*◌, ◌/◌, ◌<◌, ◌≤◌, inl, inr, Bool, true, false, Some, None, List, [], ◌∷◌, length, map, sum, refl, ap, ◌∙◌, arith}
use Rattle.std.specs.Prelude.{min, nat_lt, if◌then◌else◌}
use Rattle.std.specs.List.{range_with_len}
use Rattle.std.proofs.lemmas.Bool.{cases_lt, le-ltb, lt-ltb}
use Rattle.std.proofs.lemmas.List.FromFn.{length-map-range_with_len}
use Rattle.std.proofs.lemmas.List.Sums.{sum_by-cons}
use Rattle.rna_code.specs.declared.acts.Ink.{Ink}
use Rattle.rna_code.specs.declared.acts.Ink.TheVariants.{Black, Red, Green, Yellow, Blue, Magenta, Cyan, White}
use Rattle.canvas.specs.Buckets.{Colour, alpha_of, alphas, average_or, colour_of, colours, current_pixel, rgb}
use Rattle.canvas.specs.Pixels.{Rgba}
use Rattle.picture_in.specs.Pixmap.{IsBytes, Rgb}
use Rattle.draw_compile.specs.Law.{opaque}

-- the ink of a colour
abbrev pub ink_of : Bool → Bool → Bool → Ink
ink_of false false false = Black
ink_of true false false = Red
ink_of false true false = Green
ink_of true true false = Yellow
ink_of false false true = Blue
ink_of true false true = Magenta
ink_of false true true = Cyan
ink_of true true true = White

abbrev pub ink_at : Rgb → ℕ → Ink
ink_at p k = ink_of (nat_lt k p.0) (nat_lt k p.1) (nat_lt k p.2)

-- the inks in the bucket
unfoldable pub bucket_of : Rgb → ℕ → List Ink
bucket_of p count = map (ink_at p) (range_with_len 0 count)

abbrev full : Bool → ℕ
full b = if b then 255 else 0

channel : ℕ → ℕ → ℕ
channel c k = full (nat_lt k c)

colour_at : Rgb → ℕ → Colour
colour_at p k = rgb (channel p.0 k) (channel p.1 k) (channel p.2 k)

colour_of-ink : (red green blue : Bool) → colour_of (ink_of red green blue) ≡ Some (rgb (full red) (full green) (full blue))
colour_of-ink false false false = refl
colour_of-ink true false false = refl
colour_of-ink false true false = refl
colour_of-ink true true false = refl
colour_of-ink false false true = refl
colour_of-ink true false true = refl
colour_of-ink false true true = refl
colour_of-ink true true true = refl

alpha_of-ink : (red green blue : Bool) → alpha_of (ink_of red green blue) ≡ None
alpha_of-ink false false false = refl
alpha_of-ink true false false = refl
alpha_of-ink false true false = refl
alpha_of-ink true true false = refl
alpha_of-ink false false true = refl
alpha_of-ink true false true = refl
alpha_of-ink false true true = refl
alpha_of-ink true true true = refl

colours-inks : (p : Rgb) (ks : List ℕ) → colours (map (ink_at p) ks) ≡ map (colour_at p) ks
unfolding colours colour_at channel
colours-inks p [] = refl
colours-inks p (k ∷ ks) = rw (colour_of-ink (nat_lt k p.0) (nat_lt k p.1) (nat_lt k p.2)) (ap (λ l. colour_at p k ∷ l) (colours-inks p ks))

alphas-inks : (p : Rgb) (ks : List ℕ) → alphas (map (ink_at p) ks) ≡ []
unfolding alphas
alphas-inks p [] = refl
alphas-inks p (k ∷ ks) = rw (alpha_of-ink (nat_lt k p.0) (nat_lt k p.1) (nat_lt k p.2)) (alphas-inks p ks)

reds : (p : Rgb) (ks : List ℕ) → map (λ c. c.red) (map (colour_at p) ks) ≡ map (channel p.0) ks
unfolding colour_at
reds p [] = refl
reds p (k ∷ ks) = ap (λ l. channel p.0 k ∷ l) (reds p ks)

greens : (p : Rgb) (ks : List ℕ) → map (λ c. c.green) (map (colour_at p) ks) ≡ map (channel p.1) ks
unfolding colour_at
greens p [] = refl
greens p (k ∷ ks) = ap (λ l. channel p.1 k ∷ l) (greens p ks)

blues : (p : Rgb) (ks : List ℕ) → map (λ c. c.blue) (map (colour_at p) ks) ≡ map (channel p.2) ks
unfolding colour_at
blues p [] = refl
blues p (k ∷ ks) = ap (λ l. channel p.2 k ∷ l) (blues p ks)

channel-is : (c k : ℕ) → channel c k + 255 * (min c (k + 1) - k) ≡ 255 * (min c (k + 1) - k) + 255 * (min c (k + 1) - k)
unfolding channel
channel-is c k =
    elim (cases_lt k c) [
      | inl below ↦ rw (lt-ltb k c below) (omega arith)
      | inr past ↦ rw (le-ltb k c past) (omega arith)
    ]

sum-channels : (c n start : ℕ) → sum (map (channel c) (range_with_len start n)) ≡ 255 * (min c (start + n) - start)
sum-channels c zero start = omega arith
sum-channels c (suc n) start =
    let first = channel-is c start in
    let further = sum-channels c n (start + 1) in
    sum_by-cons (λ k. k) (channel c start) (map (channel c) (range_with_len (start + 1) n)) ∙ omega arith

average-is : (default : ℕ) (xs : List ℕ) (total count : ℕ) → sum xs ≡ total → length xs ≡ count → 0 < count → average_or default xs ≡ total / count
average-is default [] total count is_total is_count some = absurd (omega arith)
average-is default (x ∷ xs) total count is_total is_count some = ap (λ t. t / length (x ∷ xs)) is_total ∙ ap (λ n. total / n) is_count

-- the average of so many inks in one channel
channel-average : (c count : ℕ) → count ≡ 255 → c ≤ 255 → average_or 0 (map (channel c) (range_with_len 0 count)) * 255 / 255 ≡ c
channel-average c count is small =
    let total : sum (map (channel c) (range_with_len 0 count)) ≡ 255 * c = sum-channels c count 0 ∙ omega arith in
    let mean : average_or 0 (map (channel c) (range_with_len 0 count)) ≡ 255 * c / count =
    average-is 0 (map (channel c) (range_with_len 0 count)) (255 * c) count total (length-map-range_with_len (channel c) 0 count) (omega arith) in
    let whole : 255 * c / count ≡ c = ap (λ n. 255 * c / n) is ∙ omega arith in
    ap (λ n. n * 255 / 255) (mean ∙ whole) ∙ omega arith

pub bucket-pixel : (p : Rgb) (count : ℕ) → count ≡ 255 → IsBytes p → current_pixel (bucket_of p count) ≡ opaque p
unfolding current_pixel bucket_of
bucket-pixel p count is small =
    let ks : List ℕ = range_with_len 0 count in
    let of : ℕ → ℕ → ℕ → Rgba = λ r g b. record { red = r; green = g; blue = b; alpha = 255 } in
    let red : average_or 0 (map (λ c. c.red) (colours (map (ink_at p) ks))) * 255 / 255 ≡ p.0 =
    ap (λ l. average_or 0 (map (λ c. c.red) l) * 255 / 255) (colours-inks p ks) ∙ ap (λ l. average_or 0 l * 255 / 255) (reds p ks) ∙ channel-average p.0 count is small.0 in
    let green : average_or 0 (map (λ c. c.green) (colours (map (ink_at p) ks))) * 255 / 255 ≡ p.1 =
    ap (λ l. average_or 0 (map (λ c. c.green) l) * 255 / 255) (colours-inks p ks) ∙ ap (λ l. average_or 0 l * 255 / 255) (greens p ks) ∙ channel-average p.1 count is small.1 in
    let blue : average_or 0 (map (λ c. c.blue) (colours (map (ink_at p) ks))) * 255 / 255 ≡ p.2 =
    ap (λ l. average_or 0 (map (λ c. c.blue) l) * 255 / 255) (colours-inks p ks) ∙ ap (λ l. average_or 0 l * 255 / 255) (blues p ks) ∙ channel-average p.2 count is small.2 in
    rw (alphas-inks p ks)
    (ap (λ r. of r (average_or 0 (map (λ c. c.green) (colours (map (ink_at p) ks))) * 255 / 255) (average_or 0 (map (λ c. c.blue) (colours (map (ink_at p) ks))) * 255 / 255)) red
    ∙ ap (λ g. of p.0 g (average_or 0 (map (λ c. c.blue) (colours (map (ink_at p) ks))) * 255 / 255)) green
    ∙ ap (of p.0 p.1) blue)
