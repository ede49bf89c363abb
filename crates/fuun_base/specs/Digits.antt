-- Numbers written as bases, digit by digit, and how many digits they have.
use Rattle.std.specs.Prelude.{◌≡◌, ℕ, zero, suc, ◌+◌, ◌/◌, ◌%◌, ◌<◌, ◌≤◌, ◌==◌, false, [], ◌∷◌, length}
use Rattle.std.proofs.Common.{arith, refl, sym, ap, ◌∙◌}
use Rattle.std.proofs.lemmas.Bool.{ne_eqb}
use Rattle.fuun_base.specs.declared.letters.Base.TheVariants.{P}
use Rattle.fuun_base.specs.Quote.{digit_base, asnat_from, bits_from, bits}

not_zero : (n : ℕ) → 0 < n → (n == 0) ≡ false
not_zero n some = ne_eqb n 0 (λ h. omega arith)

pub asnat_from-zero : (most : ℕ) → asnat_from most 0 ≡ P ∷ []
unfolding asnat_from
asnat_from-zero zero = refl
asnat_from-zero (suc most) = refl

pub asnat_from-digit : (most n : ℕ) → 0 < n → asnat_from (suc most) n ≡ digit_base (n % 2 == 0) ∷ asnat_from most (n / 2)
unfolding asnat_from
asnat_from-digit most n some = rw (not_zero n some, asnat_from) refl

-- a count of digits that suffices does not matter
pub asnat_from-same : (a b n : ℕ) → n ≤ a → n ≤ b → asnat_from a n ≡ asnat_from b n
asnat_from-same a b zero in_a in_b = asnat_from-zero a ∙ sym (asnat_from-zero b)
asnat_from-same zero b (suc n) in_a in_b = absurd (omega arith)
asnat_from-same (suc a) zero (suc n) in_a in_b = absurd (omega arith)
asnat_from-same (suc a) (suc b) (suc n) in_a in_b =
    asnat_from-digit a (suc n) (omega arith)
    ∙ ap (λ d. digit_base (suc n % 2 == 0) ∷ d) (asnat_from-same a b (suc n / 2) (omega arith) (omega arith))
    ∙ sym (asnat_from-digit b (suc n) (omega arith))

bits_from-digit : (most n : ℕ) → 0 < n → bits_from (suc most) n ≡ 1 + bits_from most (n / 2)
unfolding bits_from
bits_from-digit most n some = rw (not_zero n some, bits_from) refl

pub length-asnat_from : (most n : ℕ) → length (asnat_from most n) ≡ bits_from most n + 1
unfolding asnat_from bits_from
length-asnat_from zero n = omega arith
length-asnat_from (suc most) zero = omega arith
length-asnat_from (suc most) (suc n) = omega (arith, length-asnat_from most (suc n / 2), ap length (asnat_from-digit most (suc n) (omega arith)), bits_from-digit most (suc n) (omega arith))

bits_from-same : (a b n : ℕ) → n ≤ a → n ≤ b → bits_from a n ≡ bits_from b n
bits_from-same a b n in_a in_b = omega (arith, length-asnat_from a n, length-asnat_from b n, ap length (asnat_from-same a b n in_a in_b))

bits_from-rises : (most m n : ℕ) → m ≤ n → bits_from most m ≤ bits_from most n
unfolding bits_from
bits_from-rises zero m n least = omega arith
bits_from-rises (suc most) zero n least = omega arith
bits_from-rises (suc most) (suc m) zero least = absurd (omega arith)
bits_from-rises (suc most) (suc m) (suc n) least =
    omega (arith, bits_from-digit most (suc m) (omega arith), bits_from-digit most (suc n) (omega arith), bits_from-rises most (suc m / 2) (suc n / 2) (omega arith))

-- a greater number has no fewer binary digits
pub bits_rise : (m n : ℕ) → m ≤ n → bits m ≤ bits n
unfolding bits
bits_rise m n least = omega (arith, bits_from-same m n m (omega arith) least, bits_from-rises n m n least)
