-- Numbers that are held at 2^63.
use Rattle.std.proofs.Common.{◌≡◌, ℕ, zero, suc, ◌+◌, ◌*◌, ◌^◌, ◌<◌, ◌≤◌, ◌||◌, Bool, true, false, List, ◌++◌, length, inl, inr, arith, refl, sym, ap, ◌∙◌, length-append}
use Rattle.std.specs.Prelude.{◌≢◌, nat_lt}
use Rattle.std.proofs.lemmas.Bool.{cases_lt, lt-ltb, le-ltb, ltb-true}
use Rattle.fuun_base.specs.declared.letters.Base.{Base}
use Rattle.dna_items.specs.Held.{held}
use Rattle.dna_items.specs.declared.items.PatItem.{PatItem}
use Rattle.dna_items.specs.declared.items.TplItem.{TplItem}
use Rattle.dna_reader.specs.Codes.{end_code, pair_code, pattern_code, template_code}

pub held_small : (n : ℕ) → n < 2 ^ 63 → held n ≡ n
unfolding held
held_small n small = omega arith

pub held_big : (n : ℕ) → 2 ^ 63 ≤ n → held n ≡ 2 ^ 63
unfolding held
held_big n big = omega arith

pub held_most : (n : ℕ) → held n ≤ 2 ^ 63
unfolding held
held_most n = omega arith

pub held-held : (n : ℕ) → held (held n) ≡ held n
unfolding held
held-held n = omega arith

-- two numbers are held alike
abbrev pub Alike : ℕ → ℕ → Type 0
Alike a b = held a ≡ held b

pub alike_small : (a b : ℕ) → Alike a b → a < 2 ^ 63 → a ≡ b
unfolding held
alike_small a b alike small = omega arith

pub alike_big : (a b : ℕ) → Alike a b → 2 ^ 63 ≤ a → 2 ^ 63 ≤ b
unfolding held
alike_big a b alike big = omega arith

pub both_big : (a b : ℕ) → 2 ^ 63 ≤ a → 2 ^ 63 ≤ b → Alike a b
unfolding held
both_big a b one other = omega arith

pub alike_sum : (a b c d : ℕ) → Alike a b → Alike c d → Alike (a + c) (b + d)
unfolding held
alike_sum a b c d one other = omega arith

big_times : (a c : ℕ) → 2 ^ 63 ≤ a → 2 ^ 63 ≤ a * suc c
big_times a c big = omega (arith, big)

no_times : (a b : ℕ) → a * zero ≡ b * zero
no_times a b = omega arith

alike_times : (a b c : ℕ) → Alike a b → Alike (a * c) (b * c)
alike_times a b zero alike = ap held (no_times a b)
alike_times a b (suc c) alike =
    elim (cases_lt a (2 ^ 63)) [
      | inl small ↦ ap (λ n. held (n * suc c)) (alike_small a b alike small)
      | inr big ↦ both_big (a * suc c) (b * suc c) (big_times a c big) (big_times b c (alike_big a b alike big))
    ]

times_swapped : (a b : ℕ) → a * b ≡ b * a
times_swapped a b = omega arith

pub alike_product : (a b c d : ℕ) → Alike a b → Alike c d → Alike (a * c) (b * d)
alike_product a b c d one other =
    alike_times a b c one ∙ ap held (times_swapped b c) ∙ alike_times c d b other ∙ ap held (times_swapped d b)

-- sums and products as they are found, from the first on
pub held_more : (value x next rest whole : ℕ) → next ≡ held (value + held x) → held (value + (x + rest)) ≡ whole → held (next + rest) ≡ whole
unfolding held
held_more value x next rest whole is before = omega arith

pub held_times_more : (value x next rest whole : ℕ) → next ≡ held (value * held x) → held (value * (x * rest)) ≡ whole → held (next * rest) ≡ whole
held_times_more value x next rest whole is before =
    let grouped : value * x * rest ≡ value * (x * rest) = omega arith in
    let one : Alike next (value * x) = ap held is ∙ held-held (value * held x) ∙ alike_product value value (held x) x refl (held-held x) in
    alike_product next (value * x) rest rest one refl ∙ ap held grouped ∙ before

pub held_none : (value whole : ℕ) → held value ≡ value → held (value + 0) ≡ whole → value ≡ whole
held_none value whole itself is =
    let zero_more : value + 0 ≡ value = omega arith in
    sym itself ∙ sym (ap held zero_more) ∙ is

pub held_once : (value whole : ℕ) → held value ≡ value → held (value * 1) ≡ whole → value ≡ whole
held_once value whole itself is =
    let once : value * 1 ≡ value = omega arith in
    sym itself ∙ sym (ap held once) ∙ is

pub sum_held : (a b : ℕ) → held (a + b) ≡ held (a + held b)
unfolding held
sum_held a b = omega arith

pub is_held : (n of : ℕ) → n ≡ held of → held n ≡ n
is_held n of is = ap held is ∙ held-held of ∙ sym is

pub held_start : (x : ℕ) → held (0 + x) ≡ held x
held_start x = let none : 0 + x ≡ x = omega arith in ap held none

pub held_start_times : (x : ℕ) → held (1 * x) ≡ held x
held_start_times x = let once : 1 * x ≡ x = omega arith in ap held once

pub held_zero : held 0 ≡ 0
held_zero = held_small 0 (omega arith)

pub held_one : held 1 ≡ 1
held_one = held_small 1 (omega arith)

pub below_is_small : (n value : ℕ) → value ≡ held n → nat_lt n (2 ^ 63) ≡ true → value ≡ n
below_is_small n value is small = is ∙ held_small n (ltb-true n (2 ^ 63) small)

pub found_small : (n value : ℕ) → value ≡ held n → value ≢ 2 ^ 63 → nat_lt n (2 ^ 63) ≡ true
unfolding held
found_small n value is not = lt-ltb n (2 ^ 63) (omega (arith, is, not))

pub found_big : (n value : ℕ) → value ≡ held n → value ≡ 2 ^ 63 → nat_lt n (2 ^ 63) ≡ false
unfolding held
found_big n value is big = le-ltb n (2 ^ 63) (omega (arith, is, big))

pub or_true : (a : Bool) → (a || true) ≡ true
or_true true = refl
or_true false = refl

pub product_held : (a b c : ℕ) → b ≡ held c → held (a * b) ≡ held (a * c)
product_held a b c is = alike_product a a b c refl (ap held is ∙ held-held c)

pub length-pair : (pattern : List PatItem) (template : List TplItem) → length (pair_code pattern template) ≡ length (pattern_code pattern) + length (template_code template) + 6
length-pair pattern template =
    let behind : List Base = template_code template ++ end_code in
    omega (arith, length-append (pattern_code pattern) (end_code ++ behind), length-append (template_code template) end_code)

pub pair_len_held : (pattern : List PatItem) (template : List TplItem) (p t both all : ℕ)
    → p ≡ held (length (pattern_code pattern)) → t ≡ held (length (template_code template)) → both ≡ held (p + t) → all ≡ held (both + 6)
    → all ≡ held (length (pair_code pattern template))
unfolding held
pair_len_held pattern template p t both all p_is t_is both_is all_is = omega (arith, p_is, t_is, both_is, all_is, length-pair pattern template)

pub held_rises : (a b : ℕ) → a ≤ b → held a ≤ held b
unfolding held
held_rises a b least = omega arith

pub held_below : (a : ℕ) → held a ≤ a
unfolding held
held_below a = omega arith

pub held_within : (a b : ℕ) → held a ≤ b → b < 2 ^ 63 → a ≤ b
unfolding held
held_within a b within small = omega arith

pub held_same : (a b : ℕ) → a < 2 ^ 63 → a ≡ b → a ≡ held b
unfolding held
held_same a b small same = omega arith

pub held_top : (a b : ℕ) → 2 ^ 63 ≤ a → a ≤ 2 ^ 63 → a ≤ b → a ≡ held b
unfolding held
held_top a b least most above = omega arith

pub held_alike : (a b : ℕ) → a ≡ held b → Alike a b
held_alike a b is = ap held is ∙ held-held b

pub held_of_small : (n own : ℕ) → n ≡ held own → n < 2 ^ 63 → n ≡ own
unfolding held
held_of_small n own is small = omega arith

pub held_over : (limit a b : ℕ) → limit < 2 ^ 63 → Alike a b → limit < b → limit < a
unfolding held
held_over limit a b small alike over = omega arith
