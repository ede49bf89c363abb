-- Numbers written as bases.
use Rattle.std.proofs.Common.{◌≡◌, ℕ, zero, suc, ◌+◌, ◌/◌, ◌%◌, ◌^◌, ◌<◌, ◌≤◌, [], ◌∷◌, length, arith, ap, ◌∙◌}
use Rattle.std.specs.Prelude.{◌==◌}
use Rattle.std.proofs.Math.Nat.{two-pow-succ}
use Rattle.fuun_base.specs.declared.letters.Base.TheVariants.{P}
use Rattle.fuun_base.specs.Digits.{asnat_from-zero, asnat_from-digit, asnat_from-same, length-asnat_from}
use Rattle.fuun_base.specs.Quote.{digit_base, asnat, bits}

pub asnat-zero : asnat 0 ≡ P ∷ []
unfolding asnat
asnat-zero = asnat_from-zero 0

pub asnat-digit : (n : ℕ) → 0 < n → asnat n ≡ digit_base (n % 2 == 0) ∷ asnat (n / 2)
unfolding asnat
asnat-digit zero some = absurd (omega arith)
asnat-digit (suc n) some =
    asnat_from-digit n (suc n) some
    ∙ ap (λ d. digit_base (suc n % 2 == 0) ∷ d) (asnat_from-same n (suc n / 2) (suc n / 2) (omega arith) (omega arith))

pub length-asnat : (n : ℕ) → length (asnat n) ≡ bits n + 1
unfolding asnat bits
length-asnat n = length-asnat_from n n

pub length-asnat_le : (most n : ℕ) → n < 2 ^ most → length (asnat n) ≤ most + 1
length-asnat_le most zero small = omega (arith, ap length asnat-zero)
length-asnat_le zero (suc n) small = absurd (omega arith)
length-asnat_le (suc most) (suc n) small =
    let half : suc n / 2 < 2 ^ most = omega (arith, two-pow-succ most) in
    omega (arith, length-asnat_le most (suc n / 2) half, ap length (asnat-digit (suc n) (omega arith)))
