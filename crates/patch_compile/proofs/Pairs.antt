-- The part of a row is the code of a pattern and a template.
use Rattle.std.proofs.Common.{◌≡◌, ℕ, List, [], ◌∷◌, ◌++◌, map, flat_map, refl, sym, ap, ◌∙◌, append-nil}
use Rattle.std.proofs.lemmas.List.{append_assoc}
use Rattle.fuun_base.specs.declared.letters.Base.{Base}
use Rattle.fuun_base.specs.declared.letters.Base.TheVariants.{I, P}
use Rattle.fuun_base.specs.Quote.{quote_of, quote, asnat}
use Rattle.dna_items.specs.declared.items.PatItem.{PatItem}
use Rattle.dna_items.specs.declared.items.PatItem.TheVariants.{Skip, GroupStart, GroupStop}
use Rattle.dna_items.specs.declared.items.TplItem.{TplItem}
use Rattle.dna_items.specs.declared.items.TplItem.TheVariants.{Base as Literal, Group}
use Rattle.dna_reader.specs.Codes.{end_code, pattern_item_code, pattern_code, template_code, template_item_code, pair_code}
use Rattle.patch_compile.specs.Code.{skip_group, reference, edit_code, range_code}

-- the pattern (!n)!cut and the template {0,0} before bases
abbrev pub edit_pattern : ℕ → ℕ → List PatItem
edit_pattern n cut = GroupStart ∷ Skip n ∷ GroupStop ∷ Skip cut ∷ []

abbrev pub literals : List Base → List TplItem
literals put = map Literal put

abbrev pub edit_template : List Base → List TplItem
edit_template put = Group 0 0 ∷ literals put

-- the pattern (!a)(!b)(!c) and the groups of a template
abbrev pub range_pattern : ℕ → ℕ → ℕ → List PatItem
range_pattern a b c = GroupStart ∷ Skip a ∷ GroupStop ∷ GroupStart ∷ Skip b ∷ GroupStop ∷ GroupStart ∷ Skip c ∷ GroupStop ∷ []

abbrev pub groups : List ℕ → List TplItem
groups references = map (λ g. Group g 0) references

group_code : (n : ℕ) (items : List PatItem) (x : List Base) → pattern_code (GroupStart ∷ Skip n ∷ GroupStop ∷ items) ++ x ≡ skip_group n ++ (pattern_code items ++ x)
group_code n items x =
    ap (λ l. I ∷ I ∷ P ∷ I ∷ P ∷ l) (append_assoc (asnat n) (end_code ++ pattern_code items) x ∙ sym (append_assoc (asnat n) end_code (pattern_code items ++ x)))

skip_code : (n : ℕ) (x : List Base) → pattern_code (Skip n ∷ []) ++ x ≡ pattern_item_code (Skip n) ++ x
skip_code n x = ap (λ l. I ∷ P ∷ (l ++ x)) (append-nil (asnat n))

literals_code : (put : List Base) → template_code (literals put) ≡ quote put
literals_code [] = refl
literals_code (b ∷ put) = ap (λ l. quote_of b ++ l) (literals_code put)

groups_code : (references : List ℕ) → template_code (groups references) ≡ flat_map reference references
groups_code [] = refl
groups_code (g ∷ references) = ap (λ l. reference g ++ l) (groups_code references)

pub edit_is_pair : (n cut : ℕ) (put : List Base) → pair_code (edit_pattern n cut) (edit_template put) ≡ edit_code n cut put
edit_is_pair n cut put =
    let template : template_code (edit_template put) ++ end_code ≡ reference 0 ++ (quote put ++ end_code) =
    append_assoc (template_item_code (Group 0 0)) (template_code (literals put)) end_code
    ∙ ap (λ l. reference 0 ++ (l ++ end_code)) (literals_code put) in
    let x : List Base = end_code ++ (template_code (edit_template put) ++ end_code) in
    group_code n (Skip cut ∷ []) x
    ∙ ap (λ l. skip_group n ++ l) (skip_code cut x)
    ∙ ap (λ l. skip_group n ++ (pattern_item_code (Skip cut) ++ (end_code ++ l))) template

pub range_is_pair : (a b c : ℕ) (references : List ℕ) → pair_code (range_pattern a b c) (groups references) ≡ range_code a b c references
range_is_pair a b c references =
    let x : List Base = end_code ++ (template_code (groups references) ++ end_code) in
    let third : List PatItem = GroupStart ∷ Skip c ∷ GroupStop ∷ [] in
    let second : List PatItem = GroupStart ∷ Skip b ∷ GroupStop ∷ third in
    group_code a second x
    ∙ ap (λ l. skip_group a ++ l) (group_code b third x)
    ∙ ap (λ l. skip_group a ++ (skip_group b ++ l)) (group_code c [] x)
    ∙ ap (λ l. skip_group a ++ (skip_group b ++ (skip_group c ++ (end_code ++ (l ++ end_code))))) (groups_code references)
