-- Each line has a length.
use Rattle.std.proofs.Common.{◌≡◌, ℕ, zero, suc, ◌+◌, ◌*◌, ◌^◌, ◌<◌, ◌≤◌, List, [], ◌∷◌, length, take, inl, inr, arith, sym, subst, length-append, add-one}
use Rattle.std.proofs.lemmas.Bool.{cases_lt}
use Rattle.std.proofs.lemmas.Nat.{mul-le, pow-add, pow_pos}
use Rattle.std.proofs.Math.Nat.{pow-le-pow_right, two-pow-succ}
use Rattle.fuun_base.specs.Quote.{asnat}
use Rattle.fuun_base.proofs.AsnatLemmas.{length-asnat_le}
use Rattle.dna_items.specs.declared.items.PatItem.TheVariants.{Skip as PatSkip}
use Rattle.dna_reader.specs.Codes.{pattern_code, pattern_item_code, template_code}
use Rattle.source_items.specs.declared.lines.CountedSkip.{CountedSkip}
use Rattle.source_items.specs.declared.lines.Factor.{Factor}
use Rattle.source_items.specs.declared.lines.Factor.TheVariants.{Number, Rest, Own, Next}
use Rattle.source_items.specs.declared.lines.Line.{Line}
use Rattle.source_items.specs.declared.lines.Line.TheVariants.{Plain, Pair, Long}
use Rattle.source_items.specs.declared.lines.SourceItem.{SourceItem}
use Rattle.source_items.specs.declared.lines.SourceItem.TheVariants.{Fixed, Skip}
use Rattle.source_items.specs.Lines.{item_of, line_len, pattern_of, skips_len}
use Rattle.source_items.specs.Values.{factor_value, product_value, sum_value, total}
use Rattle.source_code.specs.Lengths.{IsLength}
use Rattle.source_items.proofs.HeldLemmas.{length-pair}
use Rattle.source_code.proofs.Rising.{line_rises}

-- the length of a line is also the least number that the code is no longer than
pub record IsLeast (behind : List ℕ) (line : Line) (own : ℕ) : Type 0 where
  pub here : own ≡ line_len own behind line
  pub least : (n : ℕ) → line_len n behind line ≤ n → own ≤ n

-- how fast values and codes grow with a line of 2^k bases: a value is at most 2^(rank * (k + 1)), a code has at most rank * (k + 1) bases

module _ (behind : List ℕ) where
  abbrev factor_rank : Factor → ℕ
  factor_rank (Number n) = n
  factor_rank Rest = total behind
  factor_rank Own = 1
  factor_rank (Next count) = total (take count behind)

  abbrev product_rank : List Factor → ℕ
  product_rank [] = 0
  product_rank (factor ∷ factors) = factor_rank factor + product_rank factors

  abbrev sum_rank : List (List Factor) → ℕ
  sum_rank [] = 0
  sum_rank (product ∷ sum) = product_rank product + sum_rank sum + 1

  abbrev item_rank : SourceItem → ℕ
  item_rank (Fixed item) = length (pattern_item_code item)
  item_rank (Skip sum) = sum_rank sum + 4

  abbrev pattern_rank : List SourceItem → ℕ
  pattern_rank [] = 0
  pattern_rank (item ∷ items) = item_rank item + pattern_rank items

  abbrev skips_rank : List CountedSkip → ℕ
  skips_rank [] = 0
  skips_rank (skip ∷ skips) = skip.count * (sum_rank skip.sum + 4) + skips_rank skips

  abbrev line_rank : Line → ℕ
  line_rank (Plain bases) = length bases
  line_rank (Pair pattern template) = pattern_rank pattern + length (template_code template) + 6
  line_rank (Long skips len) = len + skips_rank skips

-- numbers

mul_one_le : (n k : ℕ) → n ≤ n * (k + 1)
mul_one_le n k = omega arith

pow_rises : (m n : ℕ) → m ≤ n → 2 ^ m ≤ 2 ^ n
pow_rises m n least = let two : 1 ≤ 2 = omega arith in pow-le-pow_right two least

doubled : (n : ℕ) → 2 ^ (n + 1) ≡ 2 ^ n + 2 ^ n
doubled n = rw add-one (omega (arith, two-pow-succ n))

rank_sum : (a b k : ℕ) → (a + b) * (k + 1) ≡ a * (k + 1) + b * (k + 1)
rank_sum a b k = omega arith

rank_first : (a b k : ℕ) → a * (k + 1) ≤ (a + b + 1) * (k + 1)
rank_first a b k = omega arith

rank_others : (a b k : ℕ) → b * (k + 1) + 1 ≤ (a + b + 1) * (k + 1)
rank_others a b k = omega arith

rank_skip : (r k : ℕ) → r * (k + 1) + 4 ≤ (r + 4) * (k + 1)
rank_skip r k = omega arith

times_grouped : (a b c : ℕ) → a * (b * c) ≡ a * b * c
times_grouped a b c = omega arith

enough_step : (r : ℕ) → suc (suc r) * (2 * suc (suc r) + 1 + 1) ≤ 4 * (suc r * (2 * suc r + 1 + 1))
enough_step r = omega arith

above : (n low : ℕ) → low ≤ n → (n ≡ low → ⊥) → low + 1 ≤ n
above n low least other = omega (arith, other)

-- a number is no greater than its power of two
below_power : (n : ℕ) → n < 2 ^ n
below_power zero = omega arith
below_power (suc n) = omega (arith, below_power n, two-pow-succ n)

times_more : (n k : ℕ) → n ≤ n * (k + 1)
times_more n k = mul_one_le n k

power_more : (n k : ℕ) → n ≤ 2 ^ (n * (k + 1))
power_more n k =
    let below = below_power n in
    let more : n ≤ n * (k + 1) = times_more n k in
    let powers : 2 ^ n ≤ 2 ^ (n * (k + 1)) = pow_rises n (n * (k + 1)) more in
    omega (arith, below, powers)

module _ (behind : List ℕ) (k : ℕ) where
  factor_grows : (factor : Factor) → factor_value (2 ^ k) behind factor ≤ 2 ^ (factor_rank behind factor * (k + 1))
  factor_grows (Number n) = power_more n k
  factor_grows Rest = power_more (total behind) k
  factor_grows Own = let more : k ≤ 1 * (k + 1) = omega arith in pow_rises k (1 * (k + 1)) more
  factor_grows (Next count) = power_more (total (take count behind)) k

  product_grows : (factors : List Factor) → product_value (2 ^ k) behind factors ≤ 2 ^ (product_rank behind factors * (k + 1))
  product_grows [] = pow_pos (0 * (k + 1))
  product_grows (factor ∷ factors) =
      let a : ℕ = factor_rank behind factor in
      let b : ℕ = product_rank behind factors in
      let sum : (a + b) * (k + 1) ≡ a * (k + 1) + b * (k + 1) = omega arith in
      rw (sum, pow-add 2 (a * (k + 1)) (b * (k + 1)))
      (mul-le (factor_value (2 ^ k) behind factor) (product_value (2 ^ k) behind factors) (2 ^ (a * (k + 1))) (2 ^ (b * (k + 1))) (factor_grows factor) (product_grows factors))

  sum_grows : (sum : List (List Factor)) → sum_value (2 ^ k) behind sum < 2 ^ (sum_rank behind sum * (k + 1) + 1)
  sum_grows [] = pow_pos (0 * (k + 1) + 1)
  sum_grows (product ∷ sum) =
      let a : ℕ = product_rank behind product in
      let b : ℕ = sum_rank behind sum in
      let c : ℕ = (a + b + 1) * (k + 1) in
      let first : 2 ^ (a * (k + 1)) ≤ 2 ^ c = pow_rises (a * (k + 1)) c (rank_first a b k) in
      let others : 2 ^ (b * (k + 1) + 1) ≤ 2 ^ c = pow_rises (b * (k + 1) + 1) c (rank_others a b k) in
      let both : product_value (2 ^ k) behind product + sum_value (2 ^ k) behind sum < 2 ^ (c + 1) = omega (arith, doubled c, product_grows product, sum_grows sum, first, others, pow_pos c) in
      both

  skip_grows : (sum : List (List Factor)) → length (pattern_item_code (PatSkip (sum_value (2 ^ k) behind sum))) ≤ (sum_rank behind sum + 4) * (k + 1)
  skip_grows sum =
      let r : ℕ = sum_rank behind sum in
      let most : length (asnat (sum_value (2 ^ k) behind sum)) ≤ r * (k + 1) + 1 + 1 = length-asnat_le (r * (k + 1) + 1) (sum_value (2 ^ k) behind sum) (sum_grows sum) in
      let room : r * (k + 1) + 4 ≤ (r + 4) * (k + 1) = rank_skip r k in
      omega (arith, most, room)

  item_grows : (item : SourceItem) → length (pattern_item_code (item_of (2 ^ k) behind item)) ≤ item_rank behind item * (k + 1)
  item_grows (Fixed item) = times_more (length (pattern_item_code item)) k
  item_grows (Skip sum) = skip_grows sum

  pattern_grows : (items : List SourceItem) → length (pattern_code (pattern_of (2 ^ k) behind items)) ≤ pattern_rank behind items * (k + 1)
  pattern_grows [] = omega arith
  pattern_grows (item ∷ items) =
      let sum : (item_rank behind item + pattern_rank behind items) * (k + 1) ≡ item_rank behind item * (k + 1) + pattern_rank behind items * (k + 1) = rank_sum (item_rank behind item) (pattern_rank behind items) k in
      omega (
        arith,
        sum,
        item_grows item,
        pattern_grows items,
        length-append (pattern_item_code (item_of (2 ^ k) behind item)) (pattern_code (pattern_of (2 ^ k) behind items)),
      )

  skips_grow : (skips : List CountedSkip) → skips_len (2 ^ k) behind skips ≤ skips_rank behind skips * (k + 1)
  skips_grow [] = omega arith
  skips_grow (skip ∷ skips) =
      let r : ℕ = sum_rank behind skip.sum + 4 in
      let one : ℕ = length (pattern_item_code (PatSkip (sum_value (2 ^ k) behind skip.sum))) in
      let same : skip.count ≤ skip.count = omega arith in
      let most : skip.count * one ≤ skip.count * (r * (k + 1)) = mul-le skip.count one skip.count (r * (k + 1)) same (skip_grows skip.sum) in
      let grouped : skip.count * (r * (k + 1)) ≡ skip.count * r * (k + 1) = times_grouped skip.count r (k + 1) in
      let sum : (skip.count * r + skips_rank behind skips) * (k + 1) ≡ skip.count * r * (k + 1) + skips_rank behind skips * (k + 1) = rank_sum (skip.count * r) (skips_rank behind skips) k in
      omega (arith, most, grouped, sum, skips_grow skips)

  line_grows : (line : Line) → line_len (2 ^ k) behind line ≤ line_rank behind line * (k + 1)
  line_grows (Plain bases) = times_more (length bases) k
  line_grows (Pair pattern template) =
      let t : ℕ = length (template_code template) + 6 in
      let sum : (pattern_rank behind pattern + t) * (k + 1) ≡ pattern_rank behind pattern * (k + 1) + t * (k + 1) = rank_sum (pattern_rank behind pattern) t k in
      let same : pattern_rank behind pattern + length (template_code template) + 6 ≡ pattern_rank behind pattern + t = omega arith in
      let more : t ≤ t * (k + 1) = times_more t k in
      rw same (omega (arith, sum, more, pattern_grows pattern, length-pair (pattern_of (2 ^ k) behind pattern) template))
  line_grows (Long skips len) =
      let sum : (len + skips_rank behind skips) * (k + 1) ≡ len * (k + 1) + skips_rank behind skips * (k + 1) = rank_sum len (skips_rank behind skips) k in
      omega (arith, sum, times_more len k, skips_grow skips)

-- at some number of bases the code is no longer than that
enough : (rank : ℕ) → rank * (2 * rank + 1 + 1) ≤ 2 ^ (2 * rank + 1)
enough zero = omega arith
enough (suc zero) = omega arith
enough (suc (suc rank)) =
    let before = enough (suc rank) in
    let same : 2 * suc (suc rank) + 1 ≡ suc (suc (2 * suc rank + 1)) = omega arith in
    rw same (omega (arith, before, two-pow-succ (2 * suc rank + 1), two-pow-succ (suc (2 * suc rank + 1)), enough_step rank))

pub long_enough : (behind : List ℕ) (line : Line) → (n : ℕ) × (line_len n behind line ≤ n)
long_enough behind line =
    let rank : ℕ = line_rank behind line in
    let most : line_len (2 ^ (2 * rank + 1)) behind line ≤ rank * (2 * rank + 1 + 1) = line_grows behind (2 * rank + 1) line in
    (2 ^ (2 * rank + 1), omega (arith, most, enough rank))

-- the least such number, sought from below
least_from : (behind : List ℕ) (line : Line) (fuel low : ℕ) → ((n : ℕ) → line_len n behind line ≤ n → low ≤ n) → line_len (low + fuel) behind line ≤ low + fuel
    → (own : ℕ) × (line_len own behind line ≤ own) × ((n : ℕ) → line_len n behind line ≤ n → own ≤ n)
least_from behind line zero low lowest found =
    let none : low + 0 ≡ low = omega arith in
    (low, subst (λ n. line_len n behind line ≤ n) none found, lowest)
least_from behind line (suc fuel) low lowest found =
    elim (cases_lt low (line_len low behind line)) as (λ _. (own : ℕ) × (line_len own behind line ≤ own) × ((n : ℕ) → line_len n behind line ≤ n → own ≤ n)) [
      | inl short ↦
          let next : low + suc fuel ≡ low + 1 + fuel = omega arith in
          least_from behind line fuel (low + 1)
          (λ n long. above n low (lowest n long) (λ same. let e = subst (λ m. line_len m behind line ≤ m) same long in omega (arith, e, short)))
          (subst (λ n. line_len n behind line ≤ n) next found)
      | inr long ↦ (low, long, lowest)
    ]

pub has_least : (behind : List ℕ) (line : Line) → (own : ℕ) × IsLeast behind line own
has_least behind line =
    let room = long_enough behind line in
    let none : 0 + room.0 ≡ room.0 = omega arith in
    let found = least_from behind line room.0 0 (λ n long. omega arith) (subst (λ n. line_len n behind line ≤ n) (sym none) room.1) in
    let again : line_len (line_len found.0 behind line) behind line ≤ line_len found.0 behind line = line_rises behind (line_len found.0 behind line) found.0 found.1 line in
    (found.0, record { here = omega (arith, found.1, found.2 (line_len found.0 behind line) again); least = found.2 })

pub least_is_length : (behind : List ℕ) (line : Line) (own : ℕ) → IsLeast behind line own → IsLength behind line own
least_is_length behind line own is = record { here = is.here; least = λ n same. is.least n (omega (arith, same)) }

pub length_is_least : (behind : List ℕ) (line : Line) (own : ℕ) → IsLength behind line own → IsLeast behind line own
length_is_least behind line own is =
    let least = has_least behind line in
    let same : least.0 ≡ own = omega (arith, is.least least.0 least.1.here, least.1.least own (omega (arith, is.here))) in
    subst (λ n. IsLeast behind line n) same least.1

pub length_once : (behind : List ℕ) (line : Line) (a b : ℕ) → IsLength behind line a → IsLength behind line b → a ≡ b
length_once behind line a b one other = omega (arith, one.least b other.here, other.least a one.here)
