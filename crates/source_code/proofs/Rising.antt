-- The longer a line is that a number stands for, the greater are its values and the longer is its code.
use Rattle.std.proofs.Common.{◌≡◌, ℕ, ◌^◌, ◌≤◌, ◌==◌, ◌&&◌, ◌||◌, Bool, true, false, List, [], ◌∷◌, length, arith, refl, sym, ap, ◌∙◌, length-append}
use Rattle.std.specs.List.{list_all}
use Rattle.std.proofs.lemmas.Bool.{and_parts, ltb-true, lt-ltb}
use Rattle.std.proofs.lemmas.Nat.{mul-le}
use Rattle.fuun_base.specs.Digits.{bits_rise}
use Rattle.fuun_base.specs.Quote.{asnat}
use Rattle.fuun_base.proofs.AsnatLemmas.{length-asnat}
use Rattle.dna_items.specs.declared.items.PatItem.TheVariants.{Skip as PatSkip}
use Rattle.dna_reader.specs.Codes.{pattern_code, pattern_item_code}
use Rattle.source_items.specs.declared.lines.CountedSkip.{CountedSkip}
use Rattle.source_items.specs.declared.lines.Factor.{Factor}
use Rattle.source_items.specs.declared.lines.Factor.TheVariants.{Number, Rest, Own, Next}
use Rattle.source_items.specs.declared.lines.Line.{Line}
use Rattle.source_items.specs.declared.lines.Line.TheVariants.{Plain, Pair, Long}
use Rattle.source_items.specs.declared.lines.SourceItem.{SourceItem}
use Rattle.source_items.specs.declared.lines.SourceItem.TheVariants.{Fixed, Skip}
use Rattle.source_items.specs.Lines.{are_small, is_small, is_small_item, is_small_skip, item_of, line_len, pattern_of, skips_len}
use Rattle.source_items.specs.Values.{factor_value, product_value, sum_value}
use Rattle.source_items.proofs.HeldLemmas.{length-pair}

-- the code of a greater number is no shorter
asnat_rises : (m n : ℕ) → m ≤ n → length (asnat m) ≤ length (asnat n)
asnat_rises m n least = omega (arith, length-asnat m, length-asnat n, bits_rise m n least)

both_true : {a b : Bool} → a ≡ true → b ≡ true → (a && b) ≡ true
both_true {a} {b} one other = ap (λ x. x && b) one ∙ other

or_kept : (a b c : Bool) → (b ≡ true → c ≡ true) → (a || b) ≡ true → (a || c) ≡ true
or_kept true b c kept is = refl
or_kept false b c kept is = kept is

not_true : (a : Bool) → (a ≡ true → ⊥) → a ≡ false
not_true true is_not = absurd (is_not refl)
not_true false is_not = refl

module _ (behind : List ℕ) (m n : ℕ) (least : m ≤ n) where
  factor_rises : (factor : Factor) → factor_value m behind factor ≤ factor_value n behind factor
  factor_rises (Number k) = omega arith
  factor_rises Rest = omega arith
  factor_rises Own = least
  factor_rises (Next k) = omega arith

  product_rises : (factors : List Factor) → product_value m behind factors ≤ product_value n behind factors
  product_rises [] = omega arith
  product_rises (factor ∷ factors) = mul-le (factor_value m behind factor) (product_value m behind factors) (factor_value n behind factor) (product_value n behind factors) (factor_rises factor) (product_rises factors)

  sum_rises : (sum : List (List Factor)) → sum_value m behind sum ≤ sum_value n behind sum
  sum_rises [] = omega arith
  sum_rises (product ∷ sum) = omega (arith, product_rises product, sum_rises sum)

  skip_rises : (sum : List (List Factor)) → length (pattern_item_code (PatSkip (sum_value m behind sum))) ≤ length (pattern_item_code (PatSkip (sum_value n behind sum)))
  skip_rises sum = omega (arith, asnat_rises (sum_value m behind sum) (sum_value n behind sum) (sum_rises sum))

  item_rises : (item : SourceItem) → length (pattern_item_code (item_of m behind item)) ≤ length (pattern_item_code (item_of n behind item))
  item_rises (Fixed item) = omega arith
  item_rises (Skip sum) = skip_rises sum

  pattern_rises : (items : List SourceItem) → length (pattern_code (pattern_of m behind items)) ≤ length (pattern_code (pattern_of n behind items))
  pattern_rises [] = omega arith
  pattern_rises (item ∷ items) =
      omega (
        arith,
        item_rises item,
        pattern_rises items,
        length-append (pattern_item_code (item_of m behind item)) (pattern_code (pattern_of m behind items)),
        length-append (pattern_item_code (item_of n behind item)) (pattern_code (pattern_of n behind items)),
      )

  skips_rise : (skips : List CountedSkip) → skips_len m behind skips ≤ skips_len n behind skips
  skips_rise [] = omega arith
  skips_rise (skip ∷ skips) =
      let one : ℕ = length (pattern_item_code (PatSkip (sum_value m behind skip.sum))) in
      let other : ℕ = length (pattern_item_code (PatSkip (sum_value n behind skip.sum))) in
      let same : skip.count ≤ skip.count = omega arith in
      omega (arith, mul-le skip.count one skip.count other same (skip_rises skip.sum), skips_rise skips)

  pub line_rises : (line : Line) → line_len m behind line ≤ line_len n behind line
  line_rises (Plain bases) = omega arith
  line_rises (Pair pattern template) =
      omega (arith, pattern_rises pattern, length-pair (pattern_of m behind pattern) template, length-pair (pattern_of n behind pattern) template)
  line_rises (Long skips len) = omega (arith, skips_rise skips)

  -- where the values of the greater number are small, those of the lesser are

  sum_small : (sum : List (List Factor)) → is_small n behind sum ≡ true → is_small m behind sum ≡ true
  sum_small sum small =
      let below = ltb-true (sum_value n behind sum) (2 ^ 63) small in
      lt-ltb (sum_value m behind sum) (2 ^ 63) (omega (arith, below, sum_rises sum))

  item_small : (item : SourceItem) → is_small_item n behind item ≡ true → is_small_item m behind item ≡ true
  item_small (Fixed item) small = refl
  item_small (Skip sum) small = sum_small sum small

  pattern_small : (items : List SourceItem) → list_all (is_small_item n behind) items ≡ true → list_all (is_small_item m behind) items ≡ true
  pattern_small [] small = refl
  pattern_small (item ∷ items) small =
      let (first, others) = and_parts (is_small_item n behind item) (list_all (is_small_item n behind) items) small in
      both_true (item_small item first) (pattern_small items others)

  skip_small : (count : ℕ) (sum : List (List Factor)) → (count == 0 || is_small n behind sum) ≡ true → (count == 0 || is_small m behind sum) ≡ true
  skip_small count sum small = or_kept (count == 0) (is_small n behind sum) (is_small m behind sum) (sum_small sum) small

  skips_small : (skips : List CountedSkip) → list_all (is_small_skip n behind) skips ≡ true → list_all (is_small_skip m behind) skips ≡ true
  skips_small [] small = refl
  skips_small (skip ∷ skips) small =
      let (first, others) = and_parts (is_small_skip n behind skip) (list_all (is_small_skip n behind) skips) small in
      both_true (skip_small skip.count skip.sum first) (skips_small skips others)

  pub line_small : (line : Line) → are_small n behind line ≡ true → are_small m behind line ≡ true
  line_small (Plain bases) small = refl
  line_small (Pair pattern template) small = pattern_small pattern small
  line_small (Long skips len) small = skips_small skips small

  pub line_big : (line : Line) → are_small m behind line ≡ false → are_small n behind line ≡ false
  line_big line big = not_true (are_small n behind line) (λ small. let clash : true ≡ false = sym (line_small line small) ∙ big in cc)
