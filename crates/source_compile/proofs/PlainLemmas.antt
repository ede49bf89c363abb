-- An assembler's text holds nothing that a source reads otherwise: no `#` and no `\`.
use Rattle.std.proofs.Common.{◌≡◌, ℕ, ◌^◌, ◌<◌, ◌==◌, inl, inr, false, codes, decimal, List, [], ◌∷◌, ◌++◌, flat_map, arith, refl, sym, ap, ◌∙◌, subst}
use Rattle.std.specs.List.{AllByRecursion}
use Rattle.std.specs.Str.Parse.{AllDigits}
use Rattle.std.proofs.lemmas.Bool.{cases_Bool, eqb-true, ne_eqb}
use Rattle.std.proofs.lemmas.Fmt.{decimal_is_IsNumeral}
use Rattle.std.proofs.lemmas.Str.Parse.{digit_from_value}
use Rattle.fuun_base.specs.declared.letters.Base.{Base}
use Rattle.fuun_base.specs.declared.letters.Base.TheVariants.{I, C, F, P}
use Rattle.fuun_base.specs.Letter.{letter_of}
use Rattle.fuun_base.specs.Lines.{before_lines, lines}
use Rattle.dna_items.specs.declared.items.PatItem.{PatItem}
use Rattle.dna_items.specs.declared.items.PatItem.TheVariants as pat
use Rattle.dna_items.specs.declared.items.TplItem.{TplItem}
use Rattle.dna_items.specs.declared.items.TplItem.TheVariants as tpl
use Rattle.listing.specs.Texts.{letters_text, number_text, pair_text, pattern_item_text, pattern_text, template_item_text, template_text}
use Rattle.listing.proofs.TextLemmas.{small_text}
use Rattle.source_tokens.specs.Plain.{plain, text, turn_of}
use Rattle.assembler.specs.Answers.{Pair, AreTexts}
use Rattle.assembler.specs.Laws.{IsSmallPair}
use Rattle.assembler.specs.Pairs.{HasSmallNumbers, HasSmallSkip, IsPair}

-- a byte is read as it stands
abbrev IsClear : ℕ → Type 0
IsClear byte = (byte == 35 ≡ false) × (byte == 92 ≡ false)

abbrev AreClear : List ℕ → Type 0
AreClear bytes = AllByRecursion IsClear bytes

both_clear : (a b : List ℕ) → AreClear a → AreClear b → AreClear (a ++ b)
both_clear [] b x y = y
both_clear (byte ∷ a) b x y = (x.0, both_clear a b x.1 y)

digits_clear : (digits : List ℕ) → AllDigits 10 digits → AreClear digits
digits_clear [] is = tt
digits_clear (byte ∷ digits) is =
    let value = digit_from_value byte is.0 in
    ((ne_eqb byte 35 (λ e. omega (arith, value)), ne_eqb byte 92 (λ e. omega (arith, value))), digits_clear digits is.1)

number_clear : (n : ℕ) → n < 2 ^ 63 → AreClear (number_text n)
number_clear n small = subst AreClear (sym (small_text n small)) (digits_clear (decimal n) (decimal_is_IsNumeral n (omega arith)).0.1)

letter_clear : (b : Base) → IsClear (letter_of b)
letter_clear I = (refl, refl)
letter_clear C = (refl, refl)
letter_clear F = (refl, refl)
letter_clear P = (refl, refl)

letters_clear : (s : List Base) → AreClear (letters_text s)
letters_clear [] = tt
letters_clear (b ∷ s) = (letter_clear b, letters_clear s)

item_clear : (x : PatItem) → HasSmallSkip x → AreClear (pattern_item_text x)
item_clear (pat.Base b) small = (letter_clear b, tt)
item_clear (pat.Skip n) small = ((refl, refl), number_clear n small)
item_clear (pat.Search s) small = ((refl, refl), both_clear (letters_text s) (codes ">") (letters_clear s) ((refl, refl), tt))
item_clear pat.GroupStart small = ((refl, refl), tt)
item_clear pat.GroupStop small = ((refl, refl), tt)

ended_clear : (n : ℕ) (more : List ℕ) → n < 2 ^ 63 → AreClear more → AreClear (number_text n ++ more)
ended_clear n more small clear = both_clear (number_text n) more (number_clear n small) clear

put_clear : (x : TplItem) → HasSmallNumbers x → AreClear (template_item_text x)
put_clear (tpl.Base b) small = (letter_clear b, tt)
put_clear (tpl.Group n level) small =
    ((refl, refl), ended_clear n (codes "," ++ (number_text level ++ codes "}")) small.0 ((refl, refl), ended_clear level (codes "}") small.1 ((refl, refl), tt)))
put_clear (tpl.Len n) small = ((refl, refl), ended_clear n (codes "|") small ((refl, refl), tt))

items_clear : {X : Type 0} (text : X → List ℕ) (Small : X → Type 0) → ((x : X) → Small x → AreClear (text x)) → (xs : List X) → AllByRecursion Small xs → AreClear (flat_map text xs)
items_clear text Small clear [] small = tt
items_clear text Small clear (x ∷ xs) small = both_clear (text x) (flat_map text xs) (clear x small.0) (items_clear text Small clear xs small.1)

pair_clear : (pair : Pair) → IsSmallPair pair → AreClear (pair_text pair.0 pair.1)
pair_clear pair small =
    both_clear (pattern_text pair.0) (codes " -> " ++ template_text pair.1) (items_clear pattern_item_text HasSmallSkip item_clear pair.0 small.0)
    ((refl, refl), ((refl, refl), ((refl, refl), ((refl, refl), items_clear template_item_text HasSmallNumbers put_clear pair.1 small.1))))

-- the numbers of a pair whose text a line is
pub small_pair : (line : List ℕ) (pair : Pair) → IsPair line pair.0 pair.1 → IsSmallPair pair
small_pair line pair is = (is.small_pattern, is.small_template)

lines_clear : (all : List (List ℕ)) (pairs : List Pair) → AreTexts all pairs → AllByRecursion AreClear all
lines_clear [] [] texts = tt
lines_clear [] (pair ∷ pairs) texts = absurd texts
lines_clear (line ∷ all) [] texts = absurd texts
lines_clear (line ∷ all) (pair ∷ pairs) texts = (subst AreClear (sym texts.0.text) (pair_clear pair (small_pair line pair texts.0)), lines_clear all pairs texts.2)

-- a text of such lines is such a text

first_clear : (byte : ℕ) (all : List (List ℕ)) → AllByRecursion AreClear (before_lines byte all) → IsClear byte × AllByRecursion AreClear all
first_clear byte [] clear = (clear.0.0, tt)
first_clear byte (line ∷ all) clear = (clear.0.0, (clear.0.1, clear.1))

text_clear : (bytes : List ℕ) → AllByRecursion AreClear (lines bytes) → AreClear bytes
text_clear [] clear = tt
text_clear (byte ∷ bytes) clear =
    elim (cases_Bool (byte == 10)) as (λ _. AreClear (byte ∷ bytes)) [
      | inl feed ↦
          let is : byte ≡ 10 = eqb-true byte 10 feed in
          let more : AllByRecursion AreClear ([] ∷ lines bytes) = rw feed at clear in
          (subst IsClear (sym is) (refl, refl), text_clear bytes more.1)
      | inr other ↦
          let more = first_clear byte (lines bytes) (rw other at clear) in
          (more.0, text_clear bytes more.1)
    ]

-- and it is read as it stands
same_text : (bytes : List ℕ) → AreClear bytes → text (turn_of false false) bytes ≡ bytes
same_text [] clear = refl
same_text (byte ∷ bytes) clear =
    elim (cases_Bool (byte == 10)) as (λ _. text (turn_of false false) (byte ∷ bytes) ≡ byte ∷ bytes) [
      | inl feed ↦
          let is : byte ≡ 10 = eqb-true byte 10 feed in
          rw feed (ap (λ l. 10 ∷ l) (same_text bytes clear.1) ∙ ap (λ b. b ∷ bytes) (sym is))
      | inr other ↦ rw (other, clear.0.0, clear.0.1) (ap (λ l. byte ∷ l) (same_text bytes clear.1))
    ]

pub plain_is : (bytes : List ℕ) (pairs : List Pair) → AreTexts (lines bytes) pairs → plain bytes ≡ bytes
unfolding plain
plain_is bytes pairs texts = same_text bytes (text_clear bytes (lines_clear (lines bytes) pairs texts))
