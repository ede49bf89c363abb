-- How a bucket's colours and alphas, their totals and their averages change.
use Rattle.std.proofs.Common.{◌≡◌, ℕ, ◌+◌, ◌*◌, ◌/◌, ◌^◌, ◌<◌, ◌≤◌, ◌==◌, if◌then◌else◌, List, [], ◌∷◌, ◌++◌, length, map, sum, Some, None, refl, sym, subst, ap, ◌∙◌, arith, length-append, append-nil, zero-add, false}
use Rattle.std.specs.List.{filter_map}
use Rattle.std.proofs.lemmas.Bool.Decides.{nat_tests}
use Rattle.std.proofs.lemmas.List.Elements.{filter_map-append}
use Rattle.std.proofs.lemmas.List.{length-map, map-append}
use Rattle.std.proofs.lemmas.List.Sums.{sum_by-append}
use Rattle.rna_code.specs.declared.acts.Ink.{Ink}
use Rattle.rna_code.specs.declared.acts.Ink.TheVariants.{Black, Red, Green, Yellow, Blue, Magenta, Cyan, White, Transparent, Opaque}
use Rattle.canvas.specs.declared.average.Average.{Average}
use Rattle.canvas.specs.Tally.{IsTotal, IsTally}
use Rattle.canvas.specs.Buckets.{Colour, colour_of, alpha_of, colours, alphas, average_or, current_pixel}
use Rattle.canvas.specs.Pixels.{Rgba}

-- an ink that is a colour is no alpha
colour_alone : (ink : Ink) (c : Colour) → colour_of ink ≡ Some c → alpha_of ink ≡ None
colour_alone Black c e = refl
colour_alone Red c e = refl
colour_alone Green c e = refl
colour_alone Yellow c e = refl
colour_alone Blue c e = refl
colour_alone Magenta c e = refl
colour_alone Cyan c e = refl
colour_alone White c e = refl
colour_alone Transparent c e = cc
colour_alone Opaque c e = cc

pub colours-colour : (inks : List Ink) (ink : Ink) (c : Colour) → colour_of ink ≡ Some c → colours (inks ++ ink ∷ []) ≡ colours inks ++ c ∷ []
unfolding colours
colours-colour inks ink c e = filter_map-append colour_of inks (ink ∷ []) ∙ rw e refl

pub alphas-colour : (inks : List Ink) (ink : Ink) (c : Colour) → colour_of ink ≡ Some c → alphas (inks ++ ink ∷ []) ≡ alphas inks
unfolding alphas
alphas-colour inks ink c e =
    let none = colour_alone ink c e in
    filter_map-append alpha_of inks (ink ∷ []) ∙ rw none (append-nil (filter_map alpha_of inks))

pub colours-other : (inks : List Ink) (ink : Ink) → colour_of ink ≡ None → colours (inks ++ ink ∷ []) ≡ colours inks
unfolding colours
colours-other inks ink e = filter_map-append colour_of inks (ink ∷ []) ∙ rw e (append-nil (filter_map colour_of inks))

pub alphas-alpha : (inks : List Ink) (ink : Ink) (a : ℕ) → alpha_of ink ≡ Some a → alphas (inks ++ ink ∷ []) ≡ alphas inks ++ a ∷ []
unfolding alphas
alphas-alpha inks ink a e = filter_map-append alpha_of inks (ink ∷ []) ∙ rw e refl

-- there are no more colours, and no more alphas, than inks
length-colours : (inks : List Ink) → length (colours inks) ≤ length inks
unfolding colours
length-colours [] = omega arith
length-colours (Black ∷ inks) = omega (arith, length-colours inks)
length-colours (Red ∷ inks) = omega (arith, length-colours inks)
length-colours (Green ∷ inks) = omega (arith, length-colours inks)
length-colours (Yellow ∷ inks) = omega (arith, length-colours inks)
length-colours (Blue ∷ inks) = omega (arith, length-colours inks)
length-colours (Magenta ∷ inks) = omega (arith, length-colours inks)
length-colours (Cyan ∷ inks) = omega (arith, length-colours inks)
length-colours (White ∷ inks) = omega (arith, length-colours inks)
length-colours (Transparent ∷ inks) = omega (arith, length-colours inks)
length-colours (Opaque ∷ inks) = omega (arith, length-colours inks)

length-alphas : (inks : List Ink) → length (alphas inks) ≤ length inks
unfolding alphas
length-alphas [] = omega arith
length-alphas (Black ∷ inks) = omega (arith, length-alphas inks)
length-alphas (Red ∷ inks) = omega (arith, length-alphas inks)
length-alphas (Green ∷ inks) = omega (arith, length-alphas inks)
length-alphas (Yellow ∷ inks) = omega (arith, length-alphas inks)
length-alphas (Blue ∷ inks) = omega (arith, length-alphas inks)
length-alphas (Magenta ∷ inks) = omega (arith, length-alphas inks)
length-alphas (Cyan ∷ inks) = omega (arith, length-alphas inks)
length-alphas (White ∷ inks) = omega (arith, length-alphas inks)
length-alphas (Transparent ∷ inks) = omega (arith, length-alphas inks)
length-alphas (Opaque ∷ inks) = omega (arith, length-alphas inks)

-- the average of numbers whose total and count are kept
pub average_from : (default : ℕ) (xs : List ℕ) (total count result : ℕ) → total ≡ sum xs → count ≡ length xs → result ≡ (if count == 0 then default else total / count) → result ≡ average_or default xs
average_from default [] total count result is_total is_count is = rw is_count at is
average_from default (x ∷ xs) total count result is_total is_count is =
    let some : (length (x ∷ xs) == 0) ≡ false = grind (arith, nat_tests) in
    let divided = rw (is_total, is_count) at is in
    rw some at divided

-- one number more
total_more : (xs ys : List ℕ) (x : ℕ) (a b : Average) → ys ≡ xs ++ x ∷ [] → IsTotal xs a → (b.total ≡ a.total + x) × (b.count ≡ a.count + 1) → IsTotal ys b
total_more xs ys x a b more total step =
    let sums : sum ys ≡ sum xs + x = ap sum more ∙ (sum_by-append (λ k. k) xs (x ∷ []) ∙ ap (λ k. sum xs + k) (zero-add x)) in
    let lengths : length ys ≡ length xs + 1 = ap length more ∙ length-append xs (x ∷ []) in
    (omega (arith, sums, step.0, total.0), omega (arith, lengths, step.1, total.1))

-- the same numbers
total_same : (xs ys : List ℕ) (a : Average) → ys ≡ xs → IsTotal xs a → IsTotal ys a
total_same xs ys a same total = rw same total

-- after a colour was added
pub tally-colour : (inks more : List Ink) (ink : Ink) (c : Colour) (red green blue alpha red' green' blue' : Average) → more ≡ inks ++ ink ∷ [] → Some c ≡ colour_of ink → IsTally inks red green blue alpha
    → (red'.total ≡ red.total + c.red) × (red'.count ≡ red.count + 1) → (green'.total ≡ green.total + c.green) × (green'.count ≡ green.count + 1) → (blue'.total ≡ blue.total + c.blue) × (blue'.count ≡ blue.count + 1)
    → IsTally more red' green' blue' alpha
tally-colour inks more ink c red green blue alpha red' green' blue' grown is tally reds greens blues =
    let added : colours more ≡ colours inks ++ c ∷ [] = ap colours grown ∙ colours-colour inks ink c (sym is) in
    let channel : (f : Colour → ℕ) → map f (colours more) ≡ map f (colours inks) ++ f c ∷ [] = λ f. ap (map f) added ∙ map-append f (colours inks) (c ∷ []) in
    record {
      red_total = total_more _ _ _ red red' (channel (λ k. k.red)) tally.red_total reds;
      green_total = total_more _ _ _ green green' (channel (λ k. k.green)) tally.green_total greens;
      blue_total = total_more _ _ _ blue blue' (channel (λ k. k.blue)) tally.blue_total blues;
      alpha_total = total_same _ _ alpha (ap alphas grown ∙ alphas-colour inks ink c (sym is)) tally.alpha_total;
    }

-- after an alpha was added
pub tally-alpha : (inks more : List Ink) (ink : Ink) (a : ℕ) (red green blue alpha alpha' : Average) → more ≡ inks ++ ink ∷ [] → None ≡ colour_of ink → Some a ≡ alpha_of ink → IsTally inks red green blue alpha
    → (alpha'.total ≡ alpha.total + a) × (alpha'.count ≡ alpha.count + 1) → IsTally more red green blue alpha'
tally-alpha inks more ink a red green blue alpha alpha' grown no_colour is tally step =
    let same : colours more ≡ colours inks = ap colours grown ∙ colours-other inks ink (sym no_colour) in
    record {
      red_total = total_same _ _ red (ap (map (λ k. k.red)) same) tally.red_total;
      green_total = total_same _ _ green (ap (map (λ k. k.green)) same) tally.green_total;
      blue_total = total_same _ _ blue (ap (map (λ k. k.blue)) same) tally.blue_total;
      alpha_total = total_more _ _ _ alpha alpha' (ap alphas grown ∙ alphas-alpha inks ink a (sym is)) tally.alpha_total step;
    }

-- a count of colours or of alphas has room for one more
pub colour_room : (inks now : List Ink) (f : Colour → ℕ) (a : Average) → inks ≡ now → length now < 2 ^ 100 → IsTotal (map f (colours inks)) a → a.count < 2 ^ 100
colour_room inks now f a same room total =
    let all : length (map f (colours inks)) ≡ length (colours inks) = length-map (colours inks) f in
    omega (arith, ap length same, room, total.1, all, length-colours inks)

pub alpha_room : (inks now : List Ink) (a : Average) → inks ≡ now → length now < 2 ^ 100 → IsTotal (alphas inks) a → a.count < 2 ^ 100
alpha_room inks now a same room total = omega (arith, ap length same, room, total.1, length-alphas inks)

-- the empty bucket
pub tally-empty : (inks : List Ink) (red green blue alpha : Average) → inks ≡ [] → (red.total ≡ 0) × (red.count ≡ 0) → (green.total ≡ 0) × (green.count ≡ 0) → (blue.total ≡ 0) × (blue.count ≡ 0) → (alpha.total ≡ 0) × (alpha.count ≡ 0) → IsTally inks red green blue alpha
unfolding colours alphas
tally-empty inks red green blue alpha none reds greens blues opacities =
    let P : List Ink → Type 0 = λ is. IsTally is red green blue alpha in
    subst P (sym none) (record { red_total = reds; green_total = greens; blue_total = blues; alpha_total = opacities })

-- the current pixel, from the averages
pub pixel_from : (inks now : List Ink) (red green blue alpha : Average) (rc gc bc ac r g b : ℕ) (p : Rgba) → inks ≡ now → IsTally inks red green blue alpha
    → rc ≡ (if red.count == 0 then 0 else red.total / red.count) → gc ≡ (if green.count == 0 then 0 else green.total / green.count) → bc ≡ (if blue.count == 0 then 0 else blue.total / blue.count) → ac ≡ (if alpha.count == 0 then 255 else alpha.total / alpha.count)
    → r ≡ rc * ac / 255 → g ≡ gc * ac / 255 → b ≡ bc * ac / 255 → p ≡ record { red = r; green = g; blue = b; alpha = ac } → p ≡ current_pixel now
unfolding current_pixel
pixel_from inks now red green blue alpha rc gc bc ac r g b p same tally reds greens blues opacities r_is g_is b_is p_is =
    let red_mean = average_from 0 (map (λ c. c.red) (colours inks)) red.total red.count rc tally.red_total.0 tally.red_total.1 reds in
    let green_mean = average_from 0 (map (λ c. c.green) (colours inks)) green.total green.count gc tally.green_total.0 tally.green_total.1 greens in
    let blue_mean = average_from 0 (map (λ c. c.blue) (colours inks)) blue.total blue.count bc tally.blue_total.0 tally.blue_total.1 blues in
    let alpha_mean = average_from 255 (alphas inks) alpha.total alpha.count ac tally.alpha_total.0 tally.alpha_total.1 opacities in
    cc
