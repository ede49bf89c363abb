-- How long a number's code is.
use Rattle.std.proofs.Common.{◌≡◌, ℕ, zero, suc, ◌+◌, ◌*◌, ◌/◌, ◌^◌, ◌<◌, ◌≤◌, length, arith, ap}
use Rattle.std.proofs.lemmas.Nat.{pow_pos}
use Rattle.std.proofs.Math.Nat.{two-pow-succ}
use Rattle.fuun_base.specs.Quote.{asnat}
use Rattle.fuun_base.proofs.AsnatLemmas.{asnat-zero, asnat-digit}

-- a number with so many binary digits
pub length-asnat_is : (digits n : ℕ) → n < 2 ^ digits → 2 ^ digits ≤ 2 * n + 1 → length (asnat n) ≡ digits + 1
length-asnat_is zero zero below least = ap length asnat-zero
length-asnat_is zero (suc n) below least = absurd (omega arith)
length-asnat_is (suc digits) zero below least = absurd (omega (arith, two-pow-succ digits, pow_pos digits))
length-asnat_is (suc digits) (suc n) below least =
    let below_half : suc n / 2 < 2 ^ digits = omega (arith, two-pow-succ digits) in
    let least_half : 2 ^ digits ≤ 2 * (suc n / 2) + 1 = omega (arith, two-pow-succ digits) in
    omega (arith, length-asnat_is digits (suc n / 2) below_half least_half, ap length (asnat-digit (suc n) (omega arith)))
