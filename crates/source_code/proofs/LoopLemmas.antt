-- Steps of loops: what is found so far and what is left make the whole.
use Rattle.std.proofs.Common.{◌≡◌, ℕ, ◌+◌, ◌*◌, ◌<◌, ◌≤◌, ◌&&◌, Bool, true, false, List, [], ◌∷◌, ◌++◌, length, drop, get_or, arith, sym, ap, ◌∙◌, length-append, append_assoc}
use Rattle.std.specs.List.{list_all}
use Rattle.std.proofs.lemmas.List.{drop_more, drop_all}
use Rattle.std.proofs.lemmas.Bool.{and_parts}
use Rattle.fuun_base.specs.declared.letters.Base.{Base}
use Rattle.dna_items.specs.Held.{held}
use Rattle.dna_items.specs.declared.items.PatItem.TheVariants.{Skip}
use Rattle.dna_items.specs.declared.items.TplItem.{TplItem}
use Rattle.dna_reader.specs.Codes.{pattern_code, pattern_item_code, template_code, template_item_code}
use Rattle.source_items.specs.declared.lines.CountedSkip.{CountedSkip}
use Rattle.source_items.specs.declared.lines.Factor.{Factor}
use Rattle.source_items.specs.declared.lines.SourceItem.{SourceItem}
use Rattle.source_items.specs.Lines.{item_of, pattern_of, skips_len}
use Rattle.source_items.specs.Values.{factor_value, product_value, sum_value}
use Rattle.source_items.proofs.HeldLemmas.{held_more, held_times_more, held_none, held_once, sum_held}

-- the rest begins with the item at hand
pub rest_at : {X : Type 0} (xs : List X) (i : ℕ) (x : X) → i < length xs → x ≡ get_or xs i x → drop i xs ≡ x ∷ drop (i + 1) xs
rest_at xs i x within is = drop_more xs i x within ∙ ap (λ y. y ∷ drop (i + 1) xs) (sym is)

module _ (own : ℕ) (behind : List ℕ) where
  pub product_more : (factors : List Factor) (i : ℕ) (d : Factor) (value one next whole : ℕ) → i < length factors
      → one ≡ held (factor_value own behind (get_or factors i d)) → next ≡ held (value * one)
      → held (value * product_value own behind (drop i factors)) ≡ held whole → held (next * product_value own behind (drop (i + 1) factors)) ≡ held whole
  product_more factors i d value one next whole within one_is is before =
      held_times_more value (factor_value own behind (get_or factors i d)) next (product_value own behind (drop (i + 1) factors)) (held whole)
      (is ∙ ap (λ n. held (value * n)) one_is)
      (ap (λ l. held (value * product_value own behind l)) (sym (drop_more factors i d within)) ∙ before)

  pub product_end : (factors : List Factor) (i value whole : ℕ) → length factors ≤ i → held value ≡ value
      → held (value * product_value own behind (drop i factors)) ≡ whole → value ≡ whole
  product_end factors i value whole end itself before =
      held_once value whole itself (ap (λ l. held (value * product_value own behind l)) (sym (drop_all i factors end)) ∙ before)

  pub sum_more : (sum : List (List Factor)) (i : ℕ) (product : List Factor) (value one next whole : ℕ) → i < length sum → product ≡ get_or sum i product
      → one ≡ held (product_value own behind product) → next ≡ held (value + one)
      → held (value + sum_value own behind (drop i sum)) ≡ held whole → held (next + sum_value own behind (drop (i + 1) sum)) ≡ held whole
  sum_more sum i product value one next whole within at one_is is before =
      held_more value (product_value own behind product) next (sum_value own behind (drop (i + 1) sum)) (held whole)
      (is ∙ ap (λ n. held (value + n)) one_is)
      (ap (λ l. held (value + sum_value own behind l)) (sym (rest_at sum i product within at)) ∙ before)

  pub sum_end : (sum : List (List Factor)) (i value whole : ℕ) → length sum ≤ i → held value ≡ value
      → held (value + sum_value own behind (drop i sum)) ≡ whole → value ≡ whole
  sum_end sum i value whole end itself before =
      held_none value whole itself (ap (λ l. held (value + sum_value own behind l)) (sym (drop_all i sum end)) ∙ before)

  -- the lengths of items
  pub pattern_more : (items : List SourceItem) (i : ℕ) (item : SourceItem) (len one next whole : ℕ) → i < length items → item ≡ get_or items i item
      → one ≡ held (length (pattern_item_code (item_of own behind item))) → next ≡ held (len + one)
      → held (len + length (pattern_code (pattern_of own behind (drop i items)))) ≡ held whole → held (next + length (pattern_code (pattern_of own behind (drop (i + 1) items)))) ≡ held whole
  pattern_more items i item len one next whole within at one_is is before =
      let rest : List Base = pattern_code (pattern_of own behind (drop (i + 1) items)) in
      let code : List Base = pattern_item_code (item_of own behind item) in
      held_more len (length code) next (length rest) (held whole)
      (is ∙ ap (λ n. held (len + n)) one_is)
      (ap (λ n. held (len + n)) (sym (length-append code rest))
      ∙ ap (λ l. held (len + length (pattern_code (pattern_of own behind l)))) (sym (rest_at items i item within at)) ∙ before)

  pub pattern_end : (items : List SourceItem) (i len whole : ℕ) → length items ≤ i → held len ≡ len
      → held (len + length (pattern_code (pattern_of own behind (drop i items)))) ≡ whole → len ≡ whole
  pattern_end items i len whole end itself before =
      held_none len whole itself (ap (λ l. held (len + length (pattern_code (pattern_of own behind l)))) (sym (drop_all i items end)) ∙ before)

  pub skips_more : (skips : List CountedSkip) (i : ℕ) (skip : CountedSkip) (len one next whole : ℕ) → i < length skips → skip ≡ get_or skips i skip
      → one ≡ held (skips_len own behind (skip ∷ [])) → next ≡ held (len + one)
      → held (len + skips_len own behind (drop i skips)) ≡ held whole → held (next + skips_len own behind (drop (i + 1) skips)) ≡ held whole
  skips_more skips i skip len one next whole within at one_is is before =
      let rest : ℕ = skips_len own behind (drop (i + 1) skips) in
      let alone : skips_len own behind (skip ∷ []) + rest ≡ skips_len own behind (skip ∷ drop (i + 1) skips) = omega arith in
      held_more len (skips_len own behind (skip ∷ [])) next rest (held whole)
      (is ∙ ap (λ n. held (len + n)) one_is)
      (ap (λ n. held (len + n)) alone
      ∙ ap (λ l. held (len + skips_len own behind l)) (sym (rest_at skips i skip within at)) ∙ before)

  pub skips_end : (skips : List CountedSkip) (i len whole : ℕ) → length skips ≤ i → held len ≡ len
      → held (len + skips_len own behind (drop i skips)) ≡ whole → len ≡ whole
  skips_end skips i len whole end itself before =
      held_none len whole itself (ap (λ l. held (len + skips_len own behind l)) (sym (drop_all i skips end)) ∙ before)

  -- the codes of items
  pub put_more : (items : List SourceItem) (i : ℕ) (item : SourceItem) (old new whole : List Base) → i < length items → item ≡ get_or items i item
      → new ≡ old ++ pattern_item_code (item_of own behind item)
      → old ++ pattern_code (pattern_of own behind (drop i items)) ≡ whole → new ++ pattern_code (pattern_of own behind (drop (i + 1) items)) ≡ whole
  put_more items i item old new whole within at added before =
      let rest : List Base = pattern_code (pattern_of own behind (drop (i + 1) items)) in
      ap (λ l. l ++ rest) added ∙ append_assoc old (pattern_item_code (item_of own behind item)) rest
      ∙ ap (λ l. old ++ pattern_code (pattern_of own behind l)) (sym (rest_at items i item within at)) ∙ before

pub template_more : (items : List TplItem) (i : ℕ) (d : TplItem) (len one next whole : ℕ) → i < length items
    → one ≡ length (template_item_code (get_or items i d)) → next ≡ held (len + one)
    → held (len + length (template_code (drop i items))) ≡ held whole → held (next + length (template_code (drop (i + 1) items))) ≡ held whole
template_more items i d len one next whole within one_is is before =
    let rest : List Base = template_code (drop (i + 1) items) in
    let code : List Base = template_item_code (get_or items i d) in
    held_more len (length code) next (length rest) (held whole)
    (is ∙ sum_held len one ∙ ap (λ n. held (len + held n)) one_is)
    (ap (λ n. held (len + n)) (sym (length-append code rest))
    ∙ ap (λ l. held (len + length (template_code l))) (sym (drop_more items i d within)) ∙ before)

pub template_end : (items : List TplItem) (i len whole : ℕ) → length items ≤ i → held len ≡ len
    → held (len + length (template_code (drop i items))) ≡ whole → len ≡ whole
template_end items i len whole end itself before =
    held_none len whole itself (ap (λ l. held (len + length (template_code l))) (sym (drop_all i items end)) ∙ before)

-- tests of all items
pub all_more : {X : Type 0} (test : X → Bool) (xs : List X) (i : ℕ) (x : X) (whole : Bool) → i < length xs → x ≡ get_or xs i x → test x ≡ true
    → list_all test (drop i xs) ≡ whole → list_all test (drop (i + 1) xs) ≡ whole
all_more test xs i x whole within at passes before =
    sym (ap (λ b. b && list_all test (drop (i + 1) xs)) passes) ∙ ap (list_all test) (sym (rest_at xs i x within at)) ∙ before

pub all_false : {X : Type 0} (test : X → Bool) (xs : List X) (i : ℕ) (x : X) (whole : Bool) → i < length xs → x ≡ get_or xs i x → test x ≡ false
    → list_all test (drop i xs) ≡ whole → whole ≡ false
all_false test xs i x whole within at fails before =
    sym before ∙ ap (list_all test) (rest_at xs i x within at) ∙ ap (λ b. b && list_all test (drop (i + 1) xs)) fails

pub all_end : {X : Type 0} (test : X → Bool) (xs : List X) (i : ℕ) (whole : Bool) → length xs ≤ i → list_all test (drop i xs) ≡ whole → whole ≡ true
all_end test xs i whole end before = sym before ∙ ap (list_all test) (drop_all i xs end)

-- the item at hand passes where all do
pub all_here : {X : Type 0} (test : X → Bool) (xs : List X) (i : ℕ) (x : X) → i < length xs → x ≡ get_or xs i x → list_all test (drop i xs) ≡ true
    → (test x ≡ true) × (list_all test (drop (i + 1) xs) ≡ true)
all_here test xs i x within at all =
    and_parts (test x) (list_all test (drop (i + 1) xs)) (ap (list_all test) (sym (rest_at xs i x within at)) ∙ all)

pub skips_alone : (own : ℕ) (behind : List ℕ) (skip : CountedSkip) → held (skip.count * length (pattern_item_code (Skip (sum_value own behind skip.sum)))) ≡ held (skips_len own behind (skip ∷ []))
skips_alone own behind skip =
    let one : ℕ = length (pattern_item_code (Skip (sum_value own behind skip.sum))) in
    let none : skip.count * one ≡ skip.count * one + 0 = omega arith in
    ap held none
