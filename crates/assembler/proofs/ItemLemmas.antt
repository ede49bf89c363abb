-- Items in a text.
use Rattle.std.proofs.Common.{◌≡◌, ℕ, ◌+◌, ◌^◌, ◌<◌, inl, inr, ◌==◌, Bool, true, false, cond, codes, Option, Some, None, option_map, decimal, List, [], ◌∷◌, ◌++◌, length, drop, arith, refl, sym, ap, subst, ◌∙◌, append_assoc, length-append, add-one}
use Rattle.std.proofs.lemmas.Bool.{cases_Bool, eqb-true}
use Rattle.std.proofs.lemmas.Option.{none-some, same_Some}
use Rattle.std.proofs.Math.Seq.{drop-append_seam}
use Rattle.fuun_base.specs.declared.letters.Base.{Base}
use Rattle.fuun_base.specs.declared.letters.Base.TheVariants.{I, C, F, P}
use Rattle.fuun_base.specs.Letter.{letter_of, base_of}
use Rattle.dna_items.specs.declared.items.PatItem.{PatItem}
use Rattle.dna_items.specs.declared.items.PatItem.TheVariants.{Base as Literal, Skip, Search, GroupStart, GroupStop}
use Rattle.dna_items.specs.declared.items.TplItem.{TplItem}
use Rattle.dna_items.specs.declared.items.TplItem.TheVariants.{Base as TplLiteral, Group, Len}
use Rattle.listing.specs.Texts.{number_text, letters_text, pattern_item_text, template_item_text}
use Rattle.listing.proofs.TextLemmas.{small_text}
use Rattle.assembler.specs.Ahead.{number_ahead, ended_ahead, letters_ahead, pattern_item_ahead, group_ahead, template_item_ahead}
use Rattle.assembler.specs.Pairs.{HasSmallSkip, HasSmallNumbers}
use Rattle.assembler.proofs.NumberLemmas.{number_finds, number_found, ended_finds, ended_found}
use Rattle.assembler.proofs.Readers.{mapped, chained, Fronts, fronts, fronts_behind, fronts_both, NoDigit, IsFound, IsReader}

-- letters

base_by : (byte : ℕ) (base b : Base) (test : Bool) (other : Option Base) → byte == letter_of b ≡ test → (cond test (Some b) other ≡ Some base) → (other ≡ Some base → byte ≡ letter_of base) → byte ≡ letter_of base
base_by byte base b true other is e later = eqb-true byte (letter_of b) is ∙ ap letter_of (same_Some b base e)
base_by byte base b false other is e later = later e

pub base_is : (byte : ℕ) (base : Base) → base_of byte ≡ Some base → byte ≡ letter_of base
base_is byte base is =
    base_by byte base I (byte == 73) _ refl is
    (λ e. base_by byte base C (byte == 67) _ refl e (λ e. base_by byte base F (byte == 70) _ refl e (λ e. base_by byte base P (byte == 80) _ refl e (λ e. absurd (none-some base e)))))

-- one letter more
letter_more : (b : Base) (s : List Base) (rest : List ℕ) → letters_ahead ((letters_text s ++ codes ">") ++ rest) ≡ Some (s, length (letters_text s ++ codes ">"))
    → option_map {U = List Base × ℕ} (λ (x : List Base × ℕ). (b ∷ x.0, x.1 + 1)) (letters_ahead ((letters_text s ++ codes ">") ++ rest)) ≡ Some (b ∷ s, length (letters_text (b ∷ s) ++ codes ">"))
letter_more b s rest e =
    let pair : ℕ → Option (List Base × ℕ) = λ k. Some (b ∷ s, k) in
    ap (option_map {U = List Base × ℕ} (λ (x : List Base × ℕ). (b ∷ x.0, x.1 + 1))) e ∙ ap pair (add-one (length (letters_text s ++ codes ">")))

pub letters_find : (s : List Base) (rest : List ℕ) → letters_ahead ((letters_text s ++ codes ">") ++ rest) ≡ Some (s, length (letters_text s ++ codes ">"))
unfolding letters_ahead
letters_find [] rest = refl
letters_find (I ∷ s) rest = letter_more I s rest (letters_find s rest)
letters_find (C ∷ s) rest = letter_more C s rest (letters_find s rest)
letters_find (F ∷ s) rest = letter_more F s rest (letters_find s rest)
letters_find (P ∷ s) rest = letter_more P s rest (letters_find s rest)

pub letters_found : (bytes : List ℕ) (found : List Base × ℕ) → letters_ahead bytes ≡ Some found → Fronts bytes (letters_text found.0 ++ codes ">") found.1
unfolding letters_ahead
letters_found [] found is = absurd (none-some found is)
letters_found (byte ∷ bytes) found is =
    elim (cases_Bool (byte == 62)) [
      | inl end ↦
          let none : List Base × ℕ = ([], 1) in
          let same : none ≡ found = same_Some none found (rw end at is) in
          subst (λ (p : List Base × ℕ). Fronts (byte ∷ bytes) (letters_text p.0 ++ codes ">") p.1) same
          (fronts (byte ∷ bytes) (codes ">") bytes 1 (ap (λ b. b ∷ bytes) (eqb-true byte 62 end)) refl)
      | inr other ↦
          let letter = chained (λ base. option_map (λ (s : List Base × ℕ). (base ∷ s.0, s.1 + 1)) (letters_ahead bytes)) (base_of byte) found (rw other at is) in
          let behind = mapped (λ (s : List Base × ℕ). (letter.0 ∷ s.0, s.1 + 1)) (letters_ahead bytes) found letter.2 in
          let byte_is : byte ≡ letter_of letter.0 = base_is byte letter.0 letter.1 in
          let f = letters_found bytes behind.0 behind.1 in
          subst (λ (p : List Base × ℕ). Fronts (byte ∷ bytes) (letters_text p.0 ++ codes ">") p.1) behind.2
          (subst (λ b. Fronts (byte ∷ bytes) (b ∷ (letters_text behind.0.0 ++ codes ">")) (behind.0.1 + 1)) byte_is (fronts_behind byte bytes (letters_text behind.0.0 ++ codes ">") behind.0.1 f))
    ]

-- items of patterns

letter_head : (b : Base) (bytes : List ℕ) → NoDigit (letter_of b ∷ bytes)
letter_head I bytes = refl
letter_head C bytes = refl
letter_head F bytes = refl
letter_head P bytes = refl

pattern_finds : (x : PatItem) (rest : List ℕ) → HasSmallSkip x → NoDigit rest → pattern_item_ahead (pattern_item_text x ++ rest) ≡ Some (x, length (pattern_item_text x))
unfolding pattern_item_ahead
pattern_finds (Literal I) rest small bars = refl
pattern_finds (Literal C) rest small bars = refl
pattern_finds (Literal F) rest small bars = refl
pattern_finds (Literal P) rest small bars = refl
pattern_finds (Skip n) rest small bars =
    let pair : ℕ → Option (PatItem × ℕ) = λ k. Some (Skip n, k) in
    rw (small_text n small) (rw (number_finds n rest small bars) (ap pair (add-one (length (decimal n)))))
pattern_finds (Search s) rest small bars =
    let pair : ℕ → Option (PatItem × ℕ) = λ k. Some (Search s, k) in
    rw (letters_find s rest) (ap pair (add-one (length (letters_text s ++ codes ">"))))
pattern_finds GroupStart rest small bars = refl
pattern_finds GroupStop rest small bars = refl

abbrev PatternFound : List ℕ → PatItem × ℕ → Type 0
PatternFound bytes found = IsFound pattern_item_text HasSmallSkip bytes found

one_byte : (byte code : ℕ) (bytes : List ℕ) → byte == code ≡ true → Fronts (byte ∷ bytes) (code ∷ []) 1
one_byte byte code bytes is = fronts (byte ∷ bytes) (code ∷ []) bytes 1 (ap (λ b. b ∷ bytes) (eqb-true byte code is)) refl

behind_code : (byte code : ℕ) (bytes front : List ℕ) (len : ℕ) → byte == code ≡ true → Fronts bytes front len → Fronts (byte ∷ bytes) (code ∷ front) (len + 1)
behind_code byte code bytes front len is f = subst (λ b. Fronts (byte ∷ bytes) (b ∷ front) (len + 1)) (eqb-true byte code is) (fronts_behind byte bytes front len f)

skip_found : (byte : ℕ) (bytes : List ℕ) (found : PatItem × ℕ) → byte == 33 ≡ true → option_map (λ (n : ℕ × ℕ). (Skip n.0, n.1 + 1)) (number_ahead bytes) ≡ Some found → PatternFound (byte ∷ bytes) found
skip_found byte bytes found is e =
    let number = mapped (λ (n : ℕ × ℕ). (Skip n.0, n.1 + 1)) (number_ahead bytes) found e in
    let f = number_found bytes number.0 number.1 in
    subst (λ p. PatternFound (byte ∷ bytes) p) number.2
    (f.0, subst (λ l. Fronts (byte ∷ bytes) (33 ∷ l) (number.0.1 + 1)) (sym (small_text number.0.0 f.0)) (behind_code byte 33 bytes (decimal number.0.0) number.0.1 is f.1))

search_found : (byte : ℕ) (bytes : List ℕ) (found : PatItem × ℕ) → byte == 60 ≡ true → option_map (λ (s : List Base × ℕ). (Search s.0, s.1 + 1)) (letters_ahead bytes) ≡ Some found → PatternFound (byte ∷ bytes) found
search_found byte bytes found is e =
    let letters = mapped (λ (s : List Base × ℕ). (Search s.0, s.1 + 1)) (letters_ahead bytes) found e in
    subst (λ p. PatternFound (byte ∷ bytes) p) letters.2
    (tt, behind_code byte 60 bytes (letters_text letters.0.0 ++ codes ">") letters.0.1 is (letters_found bytes letters.0 letters.1))

group_found : (x : PatItem) (byte code : ℕ) (bytes : List ℕ) (found : PatItem × ℕ) → HasSmallSkip x → pattern_item_text x ≡ code ∷ [] → byte == code ≡ true → ◌≡◌ {A = Option (PatItem × ℕ)} (Some (x, 1)) (Some found) → PatternFound (byte ∷ bytes) found
group_found x byte code bytes found small text is e =
    let one : PatItem × ℕ = (x, 1) in
    subst (λ p. PatternFound (byte ∷ bytes) p) (same_Some one found e) (small, subst (λ l. Fronts (byte ∷ bytes) l 1) (sym text) (one_byte byte code bytes is))

letter_found : (byte : ℕ) (bytes : List ℕ) (found : PatItem × ℕ) → option_map (λ base. (Literal base, 1)) (base_of byte) ≡ Some found → PatternFound (byte ∷ bytes) found
letter_found byte bytes found e =
    let letter = mapped (λ base. (Literal base, 1)) (base_of byte) found e in
    subst (λ p. PatternFound (byte ∷ bytes) p) letter.2 (tt, fronts (byte ∷ bytes) (letter_of letter.0 ∷ []) bytes 1 (ap (λ b. b ∷ bytes) (base_is byte letter.0 letter.1)) refl)

pattern_found : (bytes : List ℕ) (found : PatItem × ℕ) → pattern_item_ahead bytes ≡ Some found → PatternFound bytes found
unfolding pattern_item_ahead
pattern_found [] found e = absurd (none-some found e)
pattern_found (byte ∷ bytes) found e =
    elim (cases_Bool (byte == 33)) [
      | inl skip ↦ skip_found byte bytes found skip (rw skip at e)
      | inr a ↦
          elim (cases_Bool (byte == 60)) [
            | inl search ↦ search_found byte bytes found search (rw (a, search) at e)
            | inr b ↦
                elim (cases_Bool (byte == 40)) [
                  | inl start ↦ group_found GroupStart byte 40 bytes found tt refl start (rw (a, b, start) at e)
                  | inr c ↦
                      elim (cases_Bool (byte == 41)) [
                        | inl stop ↦ group_found GroupStop byte 41 bytes found tt refl stop (rw (a, b, c, stop) at e)
                        | inr d ↦ letter_found byte bytes found (rw (a, b, c, d) at e)
                      ]
                ]
          ]
    ]

pattern_some : (x : PatItem) → 0 < length (pattern_item_text x)
pattern_some (Literal b) = omega arith
pattern_some (Skip n) = omega arith
pattern_some (Search s) = omega arith
pattern_some GroupStart = omega arith
pattern_some GroupStop = omega arith

pattern_heads : (x : PatItem) (rest : List ℕ) → NoDigit (pattern_item_text x ++ rest)
pattern_heads (Literal b) rest = letter_head b rest
pattern_heads (Skip n) rest = refl
pattern_heads (Search s) rest = refl
pattern_heads GroupStart rest = refl
pattern_heads GroupStop rest = refl

pattern_none : pattern_item_ahead [] ≡ None
unfolding pattern_item_ahead
pattern_none = refl

-- the arrow is no item
pub no_item_in_arrow : (rest : List ℕ) → pattern_item_ahead (codes " -> " ++ rest) ≡ None
unfolding pattern_item_ahead
no_item_in_arrow rest = refl

pub pattern_reader : IsReader pattern_item_text HasSmallSkip pattern_item_ahead
pattern_reader = record { finds = pattern_finds; found = pattern_found; some = pattern_some; heads = pattern_heads; none = pattern_none }

-- items of templates

-- a group's text behind the brace, in two parts that each end
group_text : (n level : ℕ) → n < 2 ^ 63 → level < 2 ^ 63 → number_text n ++ (codes "," ++ (number_text level ++ codes "}")) ≡ (decimal n ++ (44 ∷ [])) ++ (decimal level ++ (125 ∷ []))
group_text n level small low =
    ap (λ l. l ++ (44 ∷ (number_text level ++ (125 ∷ [])))) (small_text n small)
    ∙ ap (λ l. decimal n ++ (44 ∷ (l ++ (125 ∷ [])))) (small_text level low)
    ∙ sym (append_assoc (decimal n) (44 ∷ []) (decimal level ++ (125 ∷ [])))

group_finds : (n level : ℕ) (rest : List ℕ) → n < 2 ^ 63 → level < 2 ^ 63
    → group_ahead (((decimal n ++ (44 ∷ [])) ++ (decimal level ++ (125 ∷ []))) ++ rest) ≡ Some (Group n level, length ((decimal n ++ (44 ∷ [])) ++ (decimal level ++ (125 ∷ []))) + 1)
unfolding group_ahead
group_finds n level rest small low =
    let a : List ℕ = decimal n ++ (44 ∷ []) in
    let b : List ℕ = decimal level ++ (125 ∷ []) in
    let first : ended_ahead 44 ((a ++ b) ++ rest) ≡ Some (n, length a) = ap (ended_ahead 44) (append_assoc a b rest) ∙ ended_finds 44 n (b ++ rest) refl small in
    let behind : drop (length a) ((a ++ b) ++ rest) ≡ b ++ rest = ap (drop (length a)) (append_assoc a b rest) ∙ drop-append_seam a (b ++ rest) in
    let second : ended_ahead 125 (b ++ rest) ≡ Some (level, length b) = ended_finds 125 level rest refl low in
    let pair : ℕ → Option (TplItem × ℕ) = λ k. Some (Group n level, k + 1) in
    rw first (rw behind (rw second (ap pair (sym (length-append a b)))))

template_finds : (x : TplItem) (rest : List ℕ) → HasSmallNumbers x → NoDigit rest → template_item_ahead (template_item_text x ++ rest) ≡ Some (x, length (template_item_text x))
unfolding template_item_ahead
template_finds (TplLiteral I) rest small bars = refl
template_finds (TplLiteral C) rest small bars = refl
template_finds (TplLiteral F) rest small bars = refl
template_finds (TplLiteral P) rest small bars = refl
template_finds (Group n level) rest small bars =
    let pair : ℕ → Option (TplItem × ℕ) = λ k. Some (Group n level, k) in
    rw (group_text n level small.0 small.1) (rw (group_finds n level rest small.0 small.1) (ap pair (add-one (length ((decimal n ++ (44 ∷ [])) ++ (decimal level ++ (125 ∷ [])))))))
template_finds (Len n) rest small bars =
    let pair : ℕ → Option (TplItem × ℕ) = λ k. Some (Len n, k) in
    rw (small_text n small) (rw (ended_finds 124 n rest refl small) (ap pair (add-one (length (decimal n ++ (124 ∷ []))))))

abbrev TemplateFound : List ℕ → TplItem × ℕ → Type 0
TemplateFound bytes found = IsFound template_item_text HasSmallNumbers bytes found

two_found : (byte : ℕ) (bytes : List ℕ) (found : TplItem × ℕ) → byte == 123 ≡ true → group_ahead bytes ≡ Some found → TemplateFound (byte ∷ bytes) found
unfolding group_ahead
two_found byte bytes found is e =
    let first = chained (λ (n : ℕ × ℕ). option_map (λ (level : ℕ × ℕ). (Group n.0 level.0, n.1 + level.1 + 1)) (ended_ahead 125 (drop n.1 bytes))) (ended_ahead 44 bytes) found e in
    let second = mapped (λ (level : ℕ × ℕ). (Group first.0.0 level.0, first.0.1 + level.1 + 1)) (ended_ahead 125 (drop first.0.1 bytes)) found first.2 in
    let n = ended_found 44 bytes first.0 first.1 in
    let level = ended_found 125 (drop first.0.1 bytes) second.0 second.1 in
    let both = fronts_both bytes (decimal first.0.0 ++ (44 ∷ [])) (decimal second.0.0 ++ (125 ∷ [])) first.0.1 second.0.1 n.1 level.1 in
    subst (λ p. TemplateFound (byte ∷ bytes) p) second.2
    ((n.0, level.0), subst (λ l. Fronts (byte ∷ bytes) (123 ∷ l) (first.0.1 + second.0.1 + 1)) (sym (group_text first.0.0 second.0.0 n.0 level.0)) (behind_code byte 123 bytes _ (first.0.1 + second.0.1) is both))

length_found : (byte : ℕ) (bytes : List ℕ) (found : TplItem × ℕ) → byte == 124 ≡ true → option_map (λ (n : ℕ × ℕ). (Len n.0, n.1 + 1)) (ended_ahead 124 bytes) ≡ Some found → TemplateFound (byte ∷ bytes) found
length_found byte bytes found is e =
    let number = mapped (λ (n : ℕ × ℕ). (Len n.0, n.1 + 1)) (ended_ahead 124 bytes) found e in
    let f = ended_found 124 bytes number.0 number.1 in
    subst (λ p. TemplateFound (byte ∷ bytes) p) number.2
    (f.0, subst (λ l. Fronts (byte ∷ bytes) (124 ∷ (l ++ (124 ∷ []))) (number.0.1 + 1)) (sym (small_text number.0.0 f.0)) (behind_code byte 124 bytes (decimal number.0.0 ++ (124 ∷ [])) number.0.1 is f.1))

put_letter_found : (byte : ℕ) (bytes : List ℕ) (found : TplItem × ℕ) → option_map (λ base. (TplLiteral base, 1)) (base_of byte) ≡ Some found → TemplateFound (byte ∷ bytes) found
put_letter_found byte bytes found e =
    let letter = mapped (λ base. (TplLiteral base, 1)) (base_of byte) found e in
    subst (λ p. TemplateFound (byte ∷ bytes) p) letter.2 (tt, fronts (byte ∷ bytes) (letter_of letter.0 ∷ []) bytes 1 (ap (λ b. b ∷ bytes) (base_is byte letter.0 letter.1)) refl)

template_found : (bytes : List ℕ) (found : TplItem × ℕ) → template_item_ahead bytes ≡ Some found → TemplateFound bytes found
unfolding template_item_ahead
template_found [] found e = absurd (none-some found e)
template_found (byte ∷ bytes) found e =
    elim (cases_Bool (byte == 123)) [
      | inl group ↦ two_found byte bytes found group (rw group at e)
      | inr a ↦
          elim (cases_Bool (byte == 124)) [
            | inl len ↦ length_found byte bytes found len (rw (a, len) at e)
            | inr b ↦ put_letter_found byte bytes found (rw (a, b) at e)
          ]
    ]

template_some : (x : TplItem) → 0 < length (template_item_text x)
template_some (TplLiteral b) = omega arith
template_some (Group n level) = omega arith
template_some (Len n) = omega arith

template_heads : (x : TplItem) (rest : List ℕ) → NoDigit (template_item_text x ++ rest)
template_heads (TplLiteral b) rest = letter_head b rest
template_heads (Group n level) rest = refl
template_heads (Len n) rest = refl

template_none : template_item_ahead [] ≡ None
unfolding template_item_ahead
template_none = refl

pub template_reader : IsReader template_item_text HasSmallNumbers template_item_ahead
template_reader = record { finds = template_finds; found = template_found; some = template_some; heads = template_heads; none = template_none }
