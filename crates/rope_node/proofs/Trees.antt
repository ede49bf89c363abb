-- What holds of every tree.
use Rattle.std.proofs.Common.{◌≡◌, ℕ, ◌+◌, ◌*◌, ◌^◌, ◌<◌, ◌≤◌, max, length, arith, length-append, inl, inr}
use Rattle.std.proofs.Math.Nat.{mul-le-mul, mul-le-mul_left, max-eq_left, max-eq_right}
use Rattle.std.proofs.Math.Pow.{pow_mono}
use Rattle.std.proofs.lemmas.Bool.{cases_lt}
use Rattle.std.proofs.lemmas.Nat.{pow_below}
use Rattle.std.proofs.lemmas.Grind.{pow_more}
use Rattle.rope_node.specs.Tree.{Tree, IsTree, leaf, pair}

-- a tree has a leaf, and no more leaves than bases
pub leaves_within : (t : Tree) → IsTree t → (1 ≤ t.leaves) × (t.leaves ≤ length t.bases)
leaves_within t (leaf d some most) = (omega arith, omega arith)
leaves_within t (pair l r left right near) =
    let a : (1 ≤ l.leaves) × (l.leaves ≤ length l.bases) = leaves_within l left in
    let b : (1 ≤ r.leaves) × (r.leaves ≤ length r.bases) = leaves_within r right in
    (omega arith, omega (arith, length-append l.bases r.bases))

-- where the left side is at least as high, and the right side at most one lower
half_balance : (h k a b : ℕ) → k ≤ h → h ≤ k + 1 → 2 ^ h ≤ a * a → 2 ^ k ≤ b * b → 2 ^ (h + 1) ≤ (a + b) * (a + b)
half_balance h k a b low near left right =
    let most : 2 ^ h ≤ 2 ^ (k + 1) = pow_mono near in
    let twice : 2 ^ (h + 1) ≡ 2 ^ h * 2 = pow_more 2 h in
    let twice' : 2 ^ (k + 1) ≡ 2 ^ k * 2 = pow_more 2 k in
    elim (cases_lt a b) [
      | inl below ↦ let le : a ≤ b = omega arith in omega (arith, mul-le-mul_left a le)
      | inr above ↦ omega (arith, mul-le-mul_left b above)
    ]

-- 2^h is at most a^2 and 2^k at most b^2, with h and k near
pub pair_balance : (h k a b : ℕ) → h ≤ k + 1 → k ≤ h + 1 → 2 ^ h ≤ a * a → 2 ^ k ≤ b * b → 2 ^ (max h k + 1) ≤ (a + b) * (a + b)
pair_balance h k a b near near' left right =
    elim (cases_lt h k) [
      | inl below ↦
          let le : h ≤ k = omega arith in
          let is : max h k ≡ k = max-eq_right le in
          let whole : 2 ^ (k + 1) ≤ (b + a) * (b + a) = half_balance k h b a le near' right left in
          rw is (omega arith)
      | inr above ↦
          let is : max h k ≡ h = max-eq_left above in
          rw is (half_balance h k a b above near left right)
    ]

-- a tree is low against its leaves
pub low : (t : Tree) → IsTree t → 2 ^ t.height ≤ t.leaves * t.leaves
low t (leaf d some most) = omega arith
low t (pair l r left right near) = pair_balance l.height r.height l.leaves r.leaves near.0 near.1 (low l left) (low r right)

-- the height under so many leaves
pub height_within : (h a : ℕ) → 2 ^ h ≤ a * a → a ≤ 2 ^ 41 → h ≤ 82
height_within h a balance most =
    elim (cases_lt 82 h) [
      | inl above ↦
          let higher : 2 ^ 82 < 2 ^ h = pow_below 82 h above in
          let square : a * a ≤ 2 ^ 41 * 2 ^ 41 = mul-le-mul most most in
          omega arith
      | inr within ↦ within
    ]

-- a tree of at most 2^41 bases is at most 82 high
pub height_most : (t : Tree) → IsTree t → length t.bases ≤ 2 ^ 41 → t.height ≤ 82
height_most t tree most = height_within t.height t.leaves (low t tree) (let a : (1 ≤ t.leaves) × (t.leaves ≤ length t.bases) = leaves_within t tree in omega arith)
