-- Numbers held at 2^63 while their digits are read.
use Rattle.std.proofs.Common.{◌≡◌, ℕ, ◌+◌, ◌^◌, min, List, [], ◌∷◌, ◌++◌, length, arith, refl, ap, sym, ◌∙◌, length-append}
use Rattle.std.proofs.lemmas.Nat.{pow-add}
use Rattle.fuun_base.specs.declared.letters.Base.{Base}
use Rattle.fuun_base.specs.declared.letters.Base.TheVariants.{I, C, F, P}
use Rattle.dna_items.specs.Held.{held}
use Rattle.dna_reader.specs.Numeral.{weight_at, value_from}
use Rattle.dna_reader.specs.Digits.{counted, HaveRead}
use Rattle.dna_reader.proofs.NumeralLemmas.{value_from-append}

pub held_add : (a b : ℕ) → min (held a + held b) (2 ^ 63) ≡ held (a + b)
unfolding held
held_add a b = omega arith

pub held_zero : held 0 ≡ 0
unfolding held
held_zero = refl

pub no_digits : HaveRead (record { value = 0; weight = 1 }) []
unfolding held
no_digits = record { value = refl; weight = refl }

counted_held : (b : Base) (place : ℕ) → counted b (held (2 ^ place)) ≡ held (weight_at place b)
counted_held I place = sym held_zero
counted_held C place = refl
counted_held F place = sym held_zero
counted_held P place = sym held_zero

-- one more digit
pub digit_more : (value weight : ℕ) (read : List Base) (b : Base) → HaveRead (record { value = value; weight = weight }) read
    → HaveRead (record { value = min (value + counted b weight) (2 ^ 63); weight = min (weight + weight) (2 ^ 63) }) (read ++ b ∷ [])
digit_more value weight read b have = record {
  value =
      let last : value_from (0 + length read) (b ∷ []) ≡ weight_at (length read) b =
      let none : weight_at (0 + length read) b + 0 ≡ weight_at (0 + length read) b = omega arith in
      let at : 0 + length read ≡ length read = omega arith in
      none ∙ ap (λ n. weight_at n b) at in
      let sum : value_from 0 (read ++ b ∷ []) ≡ value_from 0 read + weight_at (length read) b = value_from-append 0 read (b ∷ []) ∙ ap (λ n. value_from 0 read + n) last in
      ap (λ n. min (n + counted b weight) (2 ^ 63)) have.value
      ∙ ap (λ w. min (held (value_from 0 read) + counted b w) (2 ^ 63)) have.weight
      ∙ ap (λ n. min (held (value_from 0 read) + n) (2 ^ 63)) (counted_held b (length read))
      ∙ held_add (value_from 0 read) (weight_at (length read) b)
      ∙ ap held (sym sum);
  weight =
      let longer : length (read ++ b ∷ []) ≡ length read + 1 = length-append read (b ∷ []) in
      let double : 2 ^ length read + 2 ^ length read ≡ 2 ^ (length read + 1) = grind (arith, pow-add 2 (length read) 1) in
      ap (λ w. min (w + w) (2 ^ 63)) have.weight ∙ held_add (2 ^ length read) (2 ^ length read) ∙ ap held double ∙ ap (λ n. held (2 ^ n)) (sym longer);
}
