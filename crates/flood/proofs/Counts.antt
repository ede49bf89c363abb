-- Equal pixels, and how many there are.
use Rattle.std.proofs.Common.{◌≡◌, ◌≢◌, ℕ, zero, suc, ◌+◌, ◌-◌, ◌<◌, ◌≤◌, inl, inr, Bool, true, false, not, cond, List, [], ◌∷◌, ◌++◌, length, take, drop, replicate, get_or, refl, sym, ap, ◌∙◌, subst, arith}
use Rattle.std.proofs.lemmas.Bool.Decides.{nat_tests}
use Rattle.std.proofs.lemmas.List.{take-append-drop, drop-drop}
use Rattle.std.proofs.Math.Seq.{drop-cons}
use Rattle.canvas.specs.Pixels.{Rgba, IsSquare, pixel_at, place_of, transparent, with_span}
use Rattle.canvas.proofs.PixelLemmas.{cases_pixel, place_inside}
use Rattle.flood.specs.declared.span.Span.{Span}
use Rattle.flood.specs.Spans.{IsSpanOf}
use Rattle.flood.specs.Filling.{is_equal, count_of}

equal_yes : (p q : Rgba) → p ≡ q → is_equal p q ≡ true
equal_yes p q e = grind (arith, nat_tests)

equal_no : (p q : Rgba) → p ≢ q → is_equal p q ≡ false
equal_no p q n = grind (arith, nat_tests)

count_of-append : (p : Rgba) (xs ys : List Rgba) → count_of p (xs ++ ys) ≡ count_of p xs + count_of p ys
unfolding count_of
count_of-append p [] ys = omega arith
count_of-append p (x ∷ xs) ys = omega (arith, count_of-append p xs ys)

count_of-replicate : (p q : Rgba) (n : ℕ) → p ≢ q → count_of p (replicate n q) ≡ 0
unfolding count_of
count_of-replicate p q zero n = refl
count_of-replicate p q (suc k) n = rw (equal_no p q n) (omega (arith, count_of-replicate p q k n))

pub count_of-le-length : (p : Rgba) (xs : List Rgba) → count_of p xs ≤ length xs
unfolding count_of
count_of-le-length p [] = omega arith
count_of-le-length p (x ∷ xs) =
    elim (is_equal p x) as (λ b. cond b 1 0 + count_of p xs ≤ suc (length xs)) [ true ↦ omega (arith, count_of-le-length p xs) | false ↦ omega (arith, count_of-le-length p xs) ]

count_of-drop : (p : Rgba) (k : ℕ) (xs : List Rgba) → count_of p (drop k xs) ≤ count_of p xs
unfolding count_of
count_of-drop p zero xs = omega arith
count_of-drop p (suc k) [] = omega arith
count_of-drop p (suc k) (x ∷ xs) = omega (arith, count_of-drop p k xs)

-- a part of which the first item is p is replaced by other items
count_of-replaced : (p q : Rgba) (xs : List Rgba) (a n : ℕ) (d : Rgba) → p ≢ q → a < length xs → get_or xs a d ≡ p → 0 < n → count_of p (take a xs ++ (replicate n q ++ drop (a + n) xs)) + 1 ≤ count_of p xs
unfolding count_of
count_of-replaced p q xs a n d differ inside here some =
    let split : xs ≡ take a xs ++ drop a xs = sym (take-append-drop a xs) in
    let first : drop a xs ≡ get_or xs a d ∷ drop (suc a) xs = drop-cons xs a d inside in
    let there : suc a + (n - 1) ≡ a + n = omega arith in
    let rest : drop (n - 1) (drop (suc a) xs) ≡ drop (a + n) xs = drop-drop (n - 1) (suc a) xs ∙ ap (λ k. drop k xs) there in
    let all : count_of p xs ≡ count_of p (take a xs) + count_of p (drop a xs) = ap (count_of p) split ∙ count_of-append p (take a xs) (drop a xs) in
    let one : count_of p (drop a xs) ≡ cond (is_equal p (get_or xs a d)) 1 0 + count_of p (drop (suc a) xs) = ap (count_of p) first in
    let is_one : is_equal p (get_or xs a d) ≡ true = equal_yes p (get_or xs a d) (sym here) in
    let counted : count_of p (drop a xs) ≡ 1 + count_of p (drop (suc a) xs) = rw is_one at one in
    let fewer : count_of p (drop (a + n) xs) ≤ count_of p (drop (suc a) xs) = rw rest at (count_of-drop p (n - 1) (drop (suc a) xs)) in
    let front = count_of-append p (take a xs) (replicate n q ++ drop (a + n) xs) in
    let middle = count_of-append p (replicate n q) (drop (a + n) xs) in
    omega (arith, all, counted, fewer, front, middle, count_of-replicate p q n differ)

-- a span that was set
pub count_of-with_span : (side : ℕ) (pixels : List Rgba) (from to : Rgba) (span : Span) → from ≢ to → IsSquare side pixels → IsSpanOf side span → pixel_at side pixels span.start span.y ≡ from
    → count_of from (with_span side pixels span.y span.start span.stop to) + 1 ≤ count_of from pixels
count_of-with_span side pixels from to span differ square is here =
    let a = place_of side span.start span.y in
    let n = span.stop - span.start in
    let ends : place_of side span.stop span.y ≡ a + n = omega (arith, is.nonempty) in
    let inside : a < length pixels = omega (arith, place_inside side span.start span.y (omega (arith, is.nonempty, is.inside)) is.row, square.filled) in
    let P : ℕ → Type 0 = λ k. count_of from (take a pixels ++ (replicate n to ++ drop k pixels)) + 1 ≤ count_of from pixels in
    subst P (sym ends) (count_of-replaced from to pixels a n transparent differ inside here (omega (arith, is.nonempty)))

-- what a test of two pixels says
pub differ_from_test : (p q : Rgba) (r : Bool) → r ≡ not (is_equal p q) → r ≡ true → p ≢ q
differ_from_test p q r test is e =
    let equal = equal_yes p q e in
    let fails : r ≡ false = test ∙ ap not equal in
    let no : ⊥ = cc in
    no

pub same_from_test : (p q : Rgba) (r : Bool) → r ≡ not (is_equal p q) → r ≡ false → p ≡ q
same_from_test p q r test is =
    elim (cases_pixel p q) [
      | inl same ↦ same
      | inr n ↦
          let unequal = equal_no p q n in
          let holds : r ≡ true = test ∙ ap not unequal in
          absurd (let no : ⊥ = cc in no)
    ]
