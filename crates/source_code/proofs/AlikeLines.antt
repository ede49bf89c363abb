-- Numbers that are held alike make values that are held alike, and the same codes where the values are small.
use Rattle.std.proofs.Common.{◌≡◌, ℕ, zero, suc, ◌+◌, ◌*◌, ◌^◌, ◌==◌, ◌&&◌, ◌||◌, Bool, true, false, List, [], ◌∷◌, length, take, inl, inr, arith, refl, sym, ap, ◌∙◌}
use Rattle.std.specs.Prelude.{nat_lt}
use Rattle.std.specs.List.{list_all}
use Rattle.std.proofs.lemmas.Bool.{and_parts, cases_lt, le-ltb, ltb-true, ne_eqb}
use Rattle.dna_items.specs.declared.items.PatItem.TheVariants.{Skip as PatSkip}
use Rattle.dna_reader.specs.Codes.{pair_code, pattern_item_code}
use Rattle.source_items.specs.declared.lines.CountedSkip.{CountedSkip}
use Rattle.source_items.specs.declared.lines.Factor.{Factor}
use Rattle.source_items.specs.declared.lines.Factor.TheVariants.{Number, Rest, Own, Next}
use Rattle.source_items.specs.declared.lines.Line.{Line}
use Rattle.source_items.specs.declared.lines.Line.TheVariants.{Plain, Pair, Long}
use Rattle.source_items.specs.declared.lines.SourceItem.{SourceItem}
use Rattle.source_items.specs.declared.lines.SourceItem.TheVariants.{Fixed, Skip}
use Rattle.source_items.specs.Lines.{are_small, is_small, is_small_item, is_small_skip, item_of, line_len, pattern_of, skips_len}
use Rattle.source_items.specs.Values.{factor_value, product_value, sum_value, total}
use Rattle.source_items.proofs.HeldLemmas.{Alike, alike_big, alike_product, alike_small, alike_sum}

-- numbers that are held alike, in turn
abbrev pub AreAlike : List ℕ → List ℕ → Type 0
AreAlike [] [] = Unit {0}
AreAlike [] (y ∷ b) = ⊥
AreAlike (x ∷ a) [] = ⊥
AreAlike (x ∷ a) (y ∷ b) = Alike x y × AreAlike a b

pub all_alike : (numbers : List ℕ) → AreAlike numbers numbers
all_alike [] = tt
all_alike (n ∷ numbers) = (refl, all_alike numbers)

pub turned_alike : (a b : List ℕ) → AreAlike a b → AreAlike b a
turned_alike [] [] alike = tt
turned_alike [] (y ∷ b) alike = alike
turned_alike (x ∷ a) [] alike = alike
turned_alike (x ∷ a) (y ∷ b) alike = (sym alike.0, turned_alike a b alike.1)

pub total_alike : (a b : List ℕ) → AreAlike a b → Alike (total a) (total b)
total_alike [] [] alike = refl
total_alike [] (y ∷ b) alike = absurd alike
total_alike (x ∷ a) [] alike = absurd alike
total_alike (x ∷ a) (y ∷ b) alike = alike_sum x y (total a) (total b) alike.0 (total_alike a b alike.1)

take_alike : (count : ℕ) (a b : List ℕ) → AreAlike a b → AreAlike (take count a) (take count b)
take_alike zero a b alike = tt
take_alike (suc count) [] [] alike = tt
take_alike (suc count) [] (y ∷ b) alike = alike
take_alike (suc count) (x ∷ a) [] alike = alike
take_alike (suc count) (x ∷ a) (y ∷ b) alike = (alike.0, take_alike count a b alike.1)

same_and : {a b c d : Bool} → a ≡ b → c ≡ d → (a && c) ≡ (b && d)
same_and {a} {b} {c} {d} one other = ap (λ x. x && c) one ∙ ap (λ x. b && x) other

or_second : (a b : Bool) → a ≡ false → (a || b) ≡ true → b ≡ true
or_second a b none is = sym (ap (λ x. x || b) none) ∙ is

not_none : (n : ℕ) → suc n ≡ 0 → ⊥
not_none n is = absurd (omega (arith, is))

no_times : (a b : ℕ) → zero * a ≡ zero * b
no_times a b = omega arith

module _ (own other : ℕ) (behind later : List ℕ) (alike : Alike own other) (alikes : AreAlike behind later) where
  factor_alike : (factor : Factor) → Alike (factor_value own behind factor) (factor_value other later factor)
  factor_alike (Number n) = refl
  factor_alike Rest = total_alike behind later alikes
  factor_alike Own = alike
  factor_alike (Next count) = total_alike (take count behind) (take count later) (take_alike count behind later alikes)

  product_alike : (factors : List Factor) → Alike (product_value own behind factors) (product_value other later factors)
  product_alike [] = refl
  product_alike (factor ∷ factors) =
      alike_product (factor_value own behind factor) (factor_value other later factor) (product_value own behind factors) (product_value other later factors) (factor_alike factor) (product_alike factors)

  sum_alike : (sum : List (List Factor)) → Alike (sum_value own behind sum) (sum_value other later sum)
  sum_alike [] = refl
  sum_alike (product ∷ sum) =
      alike_sum (product_value own behind product) (product_value other later product) (sum_value own behind sum) (sum_value other later sum) (product_alike product) (sum_alike sum)

  sum_same : (sum : List (List Factor)) → is_small own behind sum ≡ true → sum_value own behind sum ≡ sum_value other later sum
  sum_same sum small = alike_small (sum_value own behind sum) (sum_value other later sum) (sum_alike sum) (ltb-true (sum_value own behind sum) (2 ^ 63) small)

  is_small_alike : (sum : List (List Factor)) → is_small own behind sum ≡ is_small other later sum
  is_small_alike sum =
      elim (cases_lt (sum_value own behind sum) (2 ^ 63)) [
        | inl small ↦ ap (λ n. nat_lt n (2 ^ 63)) (alike_small (sum_value own behind sum) (sum_value other later sum) (sum_alike sum) small)
        | inr big ↦
            le-ltb (sum_value own behind sum) (2 ^ 63) big
            ∙ sym (le-ltb (sum_value other later sum) (2 ^ 63) (alike_big (sum_value own behind sum) (sum_value other later sum) (sum_alike sum) big))
      ]

  item_alike : (item : SourceItem) → is_small_item own behind item ≡ is_small_item other later item
  item_alike (Fixed item) = refl
  item_alike (Skip sum) = is_small_alike sum

  pattern_alike : (items : List SourceItem) → list_all (is_small_item own behind) items ≡ list_all (is_small_item other later) items
  pattern_alike [] = refl
  pattern_alike (item ∷ items) = same_and (item_alike item) (pattern_alike items)

  skips_alike : (skips : List CountedSkip) → list_all (is_small_skip own behind) skips ≡ list_all (is_small_skip other later) skips
  skips_alike [] = refl
  skips_alike (skip ∷ skips) = same_and (ap (λ b. skip.count == 0 || b) (is_small_alike skip.sum)) (skips_alike skips)

  pub line_alike : (line : Line) → are_small own behind line ≡ are_small other later line
  line_alike (Plain bases) = refl
  line_alike (Pair pattern template) = pattern_alike pattern
  line_alike (Long skips len) = skips_alike skips

  -- the codes

  item_same : (item : SourceItem) → is_small_item own behind item ≡ true → item_of own behind item ≡ item_of other later item
  item_same (Fixed item) small = refl
  item_same (Skip sum) small = ap PatSkip (sum_same sum small)

  pattern_same : (items : List SourceItem) → list_all (is_small_item own behind) items ≡ true → pattern_of own behind items ≡ pattern_of other later items
  pattern_same [] small = refl
  pattern_same (item ∷ items) small =
      let (first, others) = and_parts (is_small_item own behind item) (list_all (is_small_item own behind) items) small in
      ap (λ x. x ∷ pattern_of own behind items) (item_same item first) ∙ ap (λ l. item_of other later item ∷ l) (pattern_same items others)

  skip_same : (count : ℕ) (sum : List (List Factor)) → (count == 0 || is_small own behind sum) ≡ true
      → count * length (pattern_item_code (PatSkip (sum_value own behind sum))) ≡ count * length (pattern_item_code (PatSkip (sum_value other later sum)))
  skip_same zero sum small =
      let one : ℕ = length (pattern_item_code (PatSkip (sum_value own behind sum))) in
      let two : ℕ = length (pattern_item_code (PatSkip (sum_value other later sum))) in
      no_times one two
  skip_same (suc count) sum small = ap (λ n. suc count * length (pattern_item_code (PatSkip n))) (sum_same sum (or_second (suc count == 0) (is_small own behind sum) (ne_eqb (suc count) 0 (not_none count)) small))

  skips_same : (skips : List CountedSkip) → list_all (is_small_skip own behind) skips ≡ true → skips_len own behind skips ≡ skips_len other later skips
  skips_same [] small = refl
  skips_same (skip ∷ skips) small =
      let (first, others) = and_parts (is_small_skip own behind skip) (list_all (is_small_skip own behind) skips) small in
      omega (arith, skip_same skip.count skip.sum first, skips_same skips others)

  pub len_same : (line : Line) → are_small own behind line ≡ true → line_len own behind line ≡ line_len other later line
  len_same (Plain bases) small = refl
  len_same (Pair pattern template) small = ap (λ p. length (pair_code p template)) (pattern_same pattern small)
  len_same (Long skips len) small = ap (λ n. len + n) (skips_same skips small)
