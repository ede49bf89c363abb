-- Items act on cells as they are held.
use Rattle.std.proofs.Common.{◌≡◌, ℕ, zero, suc, ◌+◌, ◌^◌, ◌<◌, ◌≤◌, ◌⊎◌, inl, inr, not, List, [], ◌∷◌, ◌++◌, length, map, arith, refl, sym, ap, subst, ◌∙◌}
use Rattle.std.specs.Prelude.{◌||◌, unwrap_or}
use Rattle.std.specs.List.{flat_map}
use Rattle.std.proofs.lemmas.Bool.{cases_lt}
use Rattle.std.proofs.lemmas.List.{length-map, length-append}
use Rattle.std.proofs.lemmas.Option.{slice_get_past}
use Rattle.fuun_base.specs.declared.letters.Base.{Base}
use Rattle.fuun_base.specs.Quote.{protect, asnat}
use Rattle.fuun_base.proofs.QuoteLemmas.{protect_of-nil}
use Rattle.dna_items.specs.declared.items.PatItem.{PatItem}
use Rattle.dna_items.specs.declared.items.PatItem.TheVariants.{Base as Literal, Skip, Search, GroupStart, GroupStop}
use Rattle.dna_items.specs.declared.items.TplItem.{TplItem}
use Rattle.dna_items.specs.declared.items.TplItem.TheVariants.{Base as TplLiteral, Group, Len}
use Rattle.dna_items.specs.Held.{held, held_pattern_item, held_template_item, held_pattern, held_template}
use Rattle.exec_loop.proofs.HeldItems.{long_by_level}
use Rattle.sym_strand.specs.declared.cells.Cell.{Cell}
use Rattle.sym_strand.specs.declared.cells.Cell.TheVariants.{Known}
use Rattle.sym_strand.specs.Cells.{all_known, known_front}
use Rattle.explainer.specs.Leading.{Leads, Fails, Depends, LeadAlong, FailAlong, DependAlong}
use Rattle.explainer.specs.Replacement.{text_of, quotes_target, depends_on_target, put_by}
use Rattle.explainer.proofs.Putting.{put_quoted, quotes_above}

-- patterns

skip_held : (i j n len : ℕ) → len < 2 ^ 63 → j ≤ len → j ≡ i + held n → j ≡ i + n
unfolding held
skip_held i j n len small within e = omega arith

past_held : (i n len : ℕ) → len < i + held n → len < i + n
unfolding held
past_held i n len past = omega arith

leads_held : (z : List Cell) (item : PatItem) (i j : ℕ) → length z < 2 ^ 63 → Leads z (held_pattern_item item) i j → Leads z item i j
leads_held z (Literal b) i j small x = x
leads_held z (Skip n) i j small x = (skip_held i j n (length z) small x.1 x.0, x.1)
leads_held z (Search s) i j small x = x
leads_held z GroupStart i j small x = x
leads_held z GroupStop i j small x = x

fails_held : (z : List Cell) (item : PatItem) (i : ℕ) → Fails z (held_pattern_item item) i → Fails z item i
fails_held z (Literal b) i x = x
fails_held z (Skip n) i x = past_held i n (length z) x
fails_held z (Search s) i x = x
fails_held z GroupStart i x = x
fails_held z GroupStop i x = x

depends_held : (z : List Cell) (item : PatItem) (i : ℕ) → Depends z (held_pattern_item item) i → Depends z item i
depends_held z (Literal b) i x = x
depends_held z (Skip n) i x = x
depends_held z (Search s) i x = x
depends_held z GroupStart i x = x
depends_held z GroupStop i x = x

pub lead_along_held : (z : List Cell) (items : List PatItem) (i : ℕ) (places : List ℕ) → length z < 2 ^ 63 → LeadAlong z (held_pattern items) i places → LeadAlong z items i places
lead_along_held z [] i [] small x = x
lead_along_held z [] i (j ∷ places) small x = x
lead_along_held z (item ∷ items) i [] small x = x
lead_along_held z (item ∷ items) i (j ∷ places) small x = (leads_held z item i j small x.0, lead_along_held z items j places small x.1)

pub fail_along_held : (z : List Cell) (items : List PatItem) (i : ℕ) → length z < 2 ^ 63 → FailAlong z (held_pattern items) i → FailAlong z items i
fail_along_held z [] i small x = x
fail_along_held z (item ∷ items) i small (inl here) = inl (fails_held z item i here)
fail_along_held z (item ∷ items) i small (inr on) = inr (on.0, leads_held z item i on.0 small on.1, fail_along_held z items on.0 small on.2)

pub depend_along_held : (z : List Cell) (items : List PatItem) (i : ℕ) → length z < 2 ^ 63 → DependAlong z (held_pattern items) i → DependAlong z items i
depend_along_held z [] i small x = x
depend_along_held z (item ∷ items) i small (inl here) = inl (depends_held z item i here)
depend_along_held z (item ∷ items) i small (inr on) = inr (on.0, leads_held z item i on.0 small on.1, depend_along_held z items on.0 small on.2)

-- templates

held_small : (n : ℕ) → n ≤ 2 ^ 63 → held n ≡ n
unfolding held
held_small n small = omega arith

held_great : (n : ℕ) → 2 ^ 63 ≤ n → held n ≡ 2 ^ 63
unfolding held
held_great n great = omega arith

text_held : (texts : List (List Cell)) (n : ℕ) → length texts < 2 ^ 63 → text_of texts (held n) ≡ text_of texts n
text_held texts n few =
    elim (cases_lt (2 ^ 63) n) [
      | inr small ↦ ap (text_of texts) (held_small n small)
      | inl great ↦
          let is : held n ≡ 2 ^ 63 = held_great n (omega arith) in
          let here : length texts ≤ held n = omega arith in
          let there : length texts ≤ n = omega arith in
          ap (λ o. unwrap_or o []) (slice_get_past texts (held n) here) ∙ sym (ap (λ o. unwrap_or o []) (slice_get_past texts n there))
    ]

-- two lists of cells are the same, or both are longer than any limit
abbrev pub IsAlike : List Cell → List Cell → Type 0
IsAlike a b = (a ≡ b) ⊎ ((2 ^ 40 < length a) × (2 ^ 40 < length b))

alike_append : (a b c d : List Cell) → IsAlike a b → IsAlike c d → IsAlike (a ++ c) (b ++ d)
alike_append a b c d (inl x) (inl y) = inl (ap (λ l. l ++ c) x ∙ ap (λ l. b ++ l) y)
alike_append a b c d (inl x) (inr y) =
    let long_c : 2 ^ 40 < length c = y.0 in let long_d : 2 ^ 40 < length d = y.1 in
    inr (omega (arith, length-append a c), omega (arith, length-append b d))
alike_append a b c d (inr x) y =
    let long_a : 2 ^ 40 < length a = x.0 in let long_b : 2 ^ 40 < length b = x.1 in
    inr (omega (arith, length-append a c), omega (arith, length-append b d))

none_of_length : (d : List Base) → length d ≡ 0 → d ≡ []
none_of_length [] e = refl
none_of_length (b ∷ d) e = absurd (omega arith)

level_alike : (level : ℕ) (d : List Base) → IsAlike (map Known (protect (held level) d)) (map Known (protect level d))
level_alike level d =
    elim (cases_lt (2 ^ 63) level) [
      | inr small ↦ inl (ap (λ n. map Known (protect n d)) (held_small level small))
      | inl great ↦ elim (cases_lt 0 (length d)) [
        | inl some ↦
            let is : held level ≡ 2 ^ 63 = held_great level (omega arith) in
            inr (
              omega (arith, long_by_level (held level) d (omega arith) some, length-map (protect (held level) d) Known),
              omega (arith, long_by_level level d (omega arith) some, length-map (protect level d) Known),
            )
        | inr none ↦
            let empty : d ≡ [] = none_of_length d (omega arith) in
            inl (ap (map Known) (subst (λ e. protect (held level) e ≡ protect level e) (sym empty) (protect_of-nil (held level) ∙ sym (protect_of-nil level))))
      ]
    ]

held_above : (level : ℕ) → 0 < level → 0 < held level
unfolding held
held_above level above = omega arith

held_zero : held 0 ≡ 0
unfolding held
held_zero = omega arith

put_alike : (texts : List (List Cell)) (item : TplItem) → length texts < 2 ^ 63 → IsAlike (put_by texts (held_template_item item)) (put_by texts item)
put_alike texts (TplLiteral b) few = inl refl
put_alike texts (Group n zero) few = inl (ap (λ l. put_by texts (Group (held n) l)) held_zero ∙ text_held texts n few)
put_alike texts (Group n (suc level)) few =
    let above : 0 < held (suc level) = held_above (suc level) (omega arith) in
    subst (λ l. IsAlike l (map Known (protect (suc level) (known_front (text_of texts n))))) (sym (put_quoted texts (held n) (held (suc level)) above))
    (subst (λ t. IsAlike (map Known (protect (held (suc level)) (known_front t))) (map Known (protect (suc level) (known_front (text_of texts n))))) (sym (text_held texts n few))
    (level_alike (suc level) (known_front (text_of texts n))))
put_alike texts (Len n) few = inl (ap (λ t. map Known (asnat (length t))) (text_held texts n few))

pub puts_alike : (texts : List (List Cell)) (items : List TplItem) (tail : List Cell) → length texts < 2 ^ 63 → IsAlike (flat_map (put_by texts) (held_template items) ++ tail) (flat_map (put_by texts) items ++ tail)
puts_alike texts items tail few = alike_append (flat_map (put_by texts) (held_template items)) (flat_map (put_by texts) items) tail tail (all items) (inl refl) where
  all : (items : List TplItem) → IsAlike (flat_map (put_by texts) (held_template items)) (flat_map (put_by texts) items)
  all [] = inl refl
  all (item ∷ items) = alike_append (put_by texts (held_template_item item)) (put_by texts item) (flat_map (put_by texts) (held_template items)) (flat_map (put_by texts) items) (put_alike texts item few) (all items)

quotes_held : (texts : List (List Cell)) (item : TplItem) → length texts < 2 ^ 63 → quotes_target texts (held_template_item item) ≡ quotes_target texts item
quotes_held texts (TplLiteral b) few = refl
quotes_held texts (Group n zero) few = ap (λ l. quotes_target texts (Group (held n) l)) held_zero
quotes_held texts (Group n (suc level)) few =
    quotes_above texts (held n) (held (suc level)) (held_above (suc level) (omega arith)) ∙ ap (λ t. not (all_known t)) (text_held texts n few)
quotes_held texts (Len n) few = refl

pub template_held : (texts : List (List Cell)) (items : List TplItem) → length texts < 2 ^ 63 → depends_on_target texts (held_template items) ≡ depends_on_target texts items
template_held texts [] few = refl
template_held texts (item ∷ items) few =
    ap (λ b. b || depends_on_target texts (held_template items)) (quotes_held texts item few)
    ∙ ap (λ b. quotes_target texts item || b) (template_held texts items few)
