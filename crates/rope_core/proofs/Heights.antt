-- Heights against numbers of leaves and of bases.
use Rattle.std.proofs.Common.{◌≡◌, ℕ, zero, suc, ◌+◌, ◌*◌, ◌/◌, ◌^◌, ◌<◌, ◌≤◌, ◌==◌, Bool, true, false, max, refl, arith, inl, inr}
use Rattle.std.specs.Int.{div_ceil}
use Rattle.std.proofs.Math.Nat.{mul-le-mul, le-max_right, max-eq_right}
use Rattle.std.proofs.Math.Pow.{pow_mono}
use Rattle.std.proofs.lemmas.Bool.{cases_lt, eqb-true}
use Rattle.std.proofs.lemmas.Nat.{pow_below, pow-add}
use Rattle.std.proofs.lemmas.Grind.{pow_more}
use Rattle.fuun_base.specs.Quote.{bits, bits_from}
use Rattle.rope_core.specs.Join.{leaves_for}

-- one digit more than the half has
below_twice : (b n : ℕ) → n / 2 < 2 ^ b → n < 2 ^ (1 + b)
below_twice b n half =
    let twice : 2 ^ (1 + b) ≡ 2 ^ 1 * 2 ^ b = pow-add 2 1 b in
    omega arith

-- the choice that the number of digits makes
below_choice : (none : Bool) (n digits : ℕ) → (none ≡ true → n ≡ 0) → n < 2 ^ (1 + digits) → n < 2 ^ (elim none as (λ b. ℕ) [ true ↦ 0 | false ↦ 1 + digits ])
below_choice true n digits nothing below = let is : n ≡ 0 = nothing refl in omega arith
below_choice false n digits nothing below = below

-- a number is below the power of two of its number of digits
below_bits_from : (most n : ℕ) → n ≤ most → n < 2 ^ bits_from most n
unfolding bits_from
below_bits_from zero n within = omega arith
below_bits_from (suc most) n within =
    let less : n / 2 ≤ most = omega arith in
    below_choice (n == 0) n (bits_from most (n / 2)) (λ e. omega (arith, eqb-true n 0 e)) (below_twice (bits_from most (n / 2)) n (below_bits_from most (n / 2) less))

pub below_bits : (n : ℕ) → n < 2 ^ bits n
unfolding bits
below_bits n = below_bits_from n n (omega arith)

-- a tree of n bases is low against the digits of n
pub height_below_bits : (h a n : ℕ) → 2 ^ h ≤ a * a → a ≤ n → h ≤ 2 * bits n
height_below_bits h a n balance within =
    let below : n < 2 ^ bits n = below_bits n in
    let most : n ≤ 2 ^ bits n = omega arith in
    let square : a * a ≤ n * n = mul-le-mul within within in
    let power : n * n ≤ 2 ^ bits n * 2 ^ bits n = mul-le-mul most most in
    let joined : 2 ^ (bits n + bits n) ≡ 2 ^ bits n * 2 ^ bits n = pow-add 2 (bits n) (bits n) in
    elim (cases_lt (bits n + bits n) h) [
      | inl above ↦
          let higher : 2 ^ (bits n + bits n) < 2 ^ h = pow_below (bits n + bits n) h above in
          omega arith
      | inr low ↦ omega arith
    ]

-- the levels over p leaves and over p or p + 1 leaves
near_levels : (p q h k : ℕ) → 1 ≤ p → p ≤ q → q ≤ p + 1 → p ≤ 2 ^ h → 2 ^ h < 2 * p → q ≤ 2 ^ k → 2 ^ k < 2 * q → (h ≤ k) × (k ≤ h + 1)
near_levels p q h k some more one high low high' low' = (
  elim (cases_lt k h) [
    | inl above ↦
        let le : k + 1 ≤ h = omega arith in
        let power : 2 ^ (k + 1) ≤ 2 ^ h = pow_mono le in
        let twice : 2 ^ (k + 1) ≡ 2 ^ k * 2 = pow_more 2 k in
        omega arith
    | inr le ↦ le
  ],
  elim (cases_lt (h + 1) k) [
    | inl above ↦
        let le : h + 1 + 1 ≤ k = omega arith in
        let power : 2 ^ (h + 1 + 1) ≤ 2 ^ k = pow_mono le in
        let twice : 2 ^ (h + 1 + 1) ≡ 2 ^ (h + 1) * 2 = pow_more 2 (h + 1) in
        let twice' : 2 ^ (h + 1) ≡ 2 ^ h * 2 = pow_more 2 h in
        omega arith
    | inr le ↦ le
  ],
)

-- the heights of the two halves that n bases are built of
pub build_levels : (n m r leaves h k : ℕ) → 512 < n → leaves ≡ div_ceil n 512 → m ≡ leaves / 2 * 512 → r + m ≡ n → leaves_for m ≤ 2 ^ h → 2 ^ h < 2 * leaves_for m → leaves_for r ≤ 2 ^ k → 2 ^ k < 2 * leaves_for r → (h ≤ k) × (k ≤ h + 1)
build_levels n m r leaves h k large number half rest high low high' low' =
    near_levels (leaves_for m) (leaves_for r) h k (omega arith) (omega arith) (omega arith) high low high' low'

-- so many leaves fit below the pair of the halves
pub build_high : (n m r leaves h k : ℕ) → 512 < n → leaves ≡ div_ceil n 512 → m ≡ leaves / 2 * 512 → r + m ≡ n → leaves_for r ≤ 2 ^ k → h ≤ k → leaves_for n ≤ 2 ^ (max h k + 1)
build_high n m r leaves h k large number half rest high order =
    let is : max h k ≡ k = max-eq_right order in
    let twice : 2 ^ (k + 1) ≡ 2 ^ k * 2 = pow_more 2 k in
    rw is (omega arith)

-- the leaves of the first third and of the rest
pub light_parts : (n m r leaves third : ℕ) → 512 < n → leaves ≡ div_ceil n 512 → third ≡ div_ceil leaves 3 → m ≡ third * 512 → r + m ≡ n → (1 ≤ leaves_for m) × (1 ≤ leaves_for r) × (leaves_for m + leaves_for r ≡ leaves_for n) × (2 * leaves_for m ≤ leaves_for r + 2) × (leaves_for r ≤ 2 * leaves_for m)
light_parts n m r leaves third large number is size rest =
    (omega arith, omega arith, omega arith, omega arith, omega arith)

-- the levels over a third of the leaves and over the rest
pub light_levels : (p q h k : ℕ) → 1 ≤ p → 1 ≤ q → 2 * p ≤ q + 2 → q ≤ 2 * p → p ≤ 2 ^ h → 3 * 2 ^ h ≤ 8 * p → q ≤ 2 ^ k → 2 ^ k < 2 * q → (h ≤ k + 1) × (k ≤ h + 1)
light_levels p q h k some some' few many high low high' low' = (
  elim (cases_lt (k + 1) h) [
    | inl above ↦
        let le : k + 1 + 1 ≤ h = omega arith in
        let power : 2 ^ (k + 1 + 1) ≤ 2 ^ h = pow_mono le in
        let twice : 2 ^ (k + 1 + 1) ≡ 2 ^ (k + 1) * 2 = pow_more 2 (k + 1) in
        let twice' : 2 ^ (k + 1) ≡ 2 ^ k * 2 = pow_more 2 k in
        omega arith
    | inr le ↦ le
  ],
  elim (cases_lt (h + 1) k) [
    | inl above ↦
        let le : h + 1 + 1 ≤ k = omega arith in
        let power : 2 ^ (h + 1 + 1) ≤ 2 ^ k = pow_mono le in
        let twice : 2 ^ (h + 1 + 1) ≡ 2 ^ (h + 1) * 2 = pow_more 2 (h + 1) in
        let twice' : 2 ^ (h + 1) ≡ 2 ^ h * 2 = pow_more 2 h in
        omega arith
    | inr le ↦ le
  ],
)

-- so many leaves fit below the pair of the third and the rest
pub light_pair : (p q n h k : ℕ) → 1 ≤ q → p + q ≡ n → 2 * p ≤ q + 2 → q ≤ 2 ^ k → n ≤ 2 ^ (max h k + 1)
light_pair p q n h k some sum few high =
    let power : 2 ^ k ≤ 2 ^ max h k = pow_mono (le-max_right h k) in
    let twice : 2 ^ (max h k + 1) ≡ 2 ^ max h k * 2 = pow_more 2 (max h k) in
    omega arith
