-- Texts of numbers and items that are held.
use Rattle.std.proofs.Common.{◌≡◌, ℕ, ◌^◌, ◌<◌, ◌≤◌, List, [], ◌∷◌, ◌++◌, codes, decimal, if◌then◌else◌, ◌⊎◌, inl, inr, arith, refl, sym, ap, ◌∙◌}
use Rattle.std.proofs.lemmas.Bool.{lt-ltb, le-ltb, cases_lt}
use Rattle.dna_items.specs.declared.items.PatItem.{PatItem}
use Rattle.dna_items.specs.declared.items.PatItem.TheVariants.{Base as Literal, Skip, Search, GroupStart, GroupStop}
use Rattle.dna_items.specs.declared.items.TplItem.{TplItem}
use Rattle.dna_items.specs.declared.items.TplItem.TheVariants.{Base as TplLiteral, Group, Len}
use Rattle.dna_items.specs.Held.{held, held_pattern_item, held_template_item, held_pattern, held_template}
use Rattle.listing.specs.Laws.{HeldPatternHasItsText, HeldTemplateHasItsText}
use Rattle.listing.specs.Texts.{number_text, pattern_item_text, template_item_text, pattern_text, template_text, pair_text}

pub small_text : (n : ℕ) → n < 2 ^ 63 → number_text n ≡ decimal n
unfolding number_text
small_text n small = ap (λ b. if b then decimal n else codes "big") (lt-ltb n (2 ^ 63) small)

pub big_text : (n : ℕ) → 2 ^ 63 ≤ n → number_text n ≡ codes "big"
unfolding number_text
big_text n big = ap (λ b. if b then decimal n else codes "big") (le-ltb n (2 ^ 63) big)

held_small : (n : ℕ) → n < 2 ^ 63 → held n ≡ n
unfolding held
held_small n small = omega arith

held_big : (n : ℕ) → 2 ^ 63 ≤ n → 2 ^ 63 ≤ held n
unfolding held
held_big n big = omega arith

held_by : (n : ℕ) → (n < 2 ^ 63) ⊎ (2 ^ 63 ≤ n) → number_text (held n) ≡ number_text n
held_by n (inl small) = ap number_text (held_small n small)
held_by n (inr big) = big_text (held n) (held_big n big) ∙ sym (big_text n big)

pub held_number_text : (n : ℕ) → number_text (held n) ≡ number_text n
held_number_text n = held_by n (cases_lt n (2 ^ 63))

pattern_item : (item : PatItem) → pattern_item_text (held_pattern_item item) ≡ pattern_item_text item
pattern_item (Literal b) = refl
pattern_item (Skip n) = ap (λ l. codes "!" ++ l) (held_number_text n)
pattern_item (Search s) = refl
pattern_item GroupStart = refl
pattern_item GroupStop = refl

template_item : (item : TplItem) → template_item_text (held_template_item item) ≡ template_item_text item
template_item (TplLiteral b) = refl
template_item (Group n level) =
    ap (λ l. codes "{" ++ (l ++ (codes "," ++ (number_text (held level) ++ codes "}")))) (held_number_text n)
    ∙ ap (λ l. codes "{" ++ (number_text n ++ (codes "," ++ (l ++ codes "}")))) (held_number_text level)
template_item (Len n) = ap (λ l. codes "|" ++ (l ++ codes "|")) (held_number_text n)

pub held_pattern_text : HeldPatternHasItsText
held_pattern_text [] = refl
held_pattern_text (item ∷ items) =
    ap (λ l. l ++ pattern_text (held_pattern items)) (pattern_item item) ∙ ap (λ l. pattern_item_text item ++ l) (held_pattern_text items)

pub held_template_text : HeldTemplateHasItsText
held_template_text [] = refl
held_template_text (item ∷ items) =
    ap (λ l. l ++ template_text (held_template items)) (template_item item) ∙ ap (λ l. template_item_text item ++ l) (held_template_text items)

-- so have pairs
pub held_pair_text : (pattern kept : List PatItem) (template put : List TplItem) → kept ≡ held_pattern pattern → put ≡ held_template template → pair_text kept put ≡ pair_text pattern template
held_pair_text pattern kept template put is_kept is_put =
    ap (λ l. l ++ (codes " -> " ++ template_text put)) (ap pattern_text is_kept ∙ held_pattern_text pattern)
    ∙ ap (λ l. pattern_text pattern ++ (codes " -> " ++ l)) (ap template_text is_put ∙ held_template_text template)
