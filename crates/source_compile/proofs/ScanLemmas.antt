-- An assembler's line is scanned to the tokens of its pair.
use Rattle.std.proofs.Common.{◌≡◌, ℕ, zero, suc, ◌+◌, ◌/◌, ◌%◌, ◌^◌, ◌<◌, ◌≤◌, ◌==◌, inl, inr, true, false, min, codes, decimal, List, [], ◌∷◌, ◌++◌, length, take, flat_map, arith, refl, sym, ap, ◌∙◌, subst, append_assoc, append-nil, length-append}
use Rattle.std.specs.List.{AllByRecursion, prefix_len}
use Rattle.std.proofs.lemmas.Bool.{cases_lt, lt-leb, ne_eqb}
use Rattle.std.proofs.lemmas.Fmt.{decimal_digit, decimal_step}
use Rattle.std.proofs.lemmas.Grind.{fold-append}
use Rattle.std.proofs.lemmas.List.{length-map}
use Rattle.std.proofs.Math.Seq.{drop-append_seam, take-append_seam}
use Rattle.fuun_base.specs.declared.letters.Base.{Base as BaseOf}
use Rattle.fuun_base.specs.declared.letters.Base.TheVariants.{I, C, F, P}
use Rattle.fuun_base.specs.Letter.{is_blank, letter_of}
use Rattle.dna_items.specs.declared.items.PatItem.{PatItem}
use Rattle.dna_items.specs.declared.items.PatItem.TheVariants as pat
use Rattle.dna_items.specs.declared.items.TplItem.{TplItem}
use Rattle.dna_items.specs.declared.items.TplItem.TheVariants as tpl
use Rattle.listing.specs.Texts.{letters_text, number_text, pair_text, pattern_item_text, pattern_text, template_item_text, template_text}
use Rattle.listing.proofs.TextLemmas.{small_text}
use Rattle.source_tokens.specs.declared.words.Token.{Token}
use Rattle.source_tokens.specs.declared.words.Word.TheVariants.{Arrow, Greater, Number}
use Rattle.fuun_base.specs.Decimals.{is_digit}
use Rattle.source_tokens.specs.Bytes.{is_lower}
use Rattle.source_tokens.specs.Statements.{line_scan, nothing_yet}
use Rattle.source_tokens.specs.Words.{Reading, Scan, number_of, reading, scan, sign_of, token_at, with_digit, with_word, word_at}
use Rattle.source_tokens.proofs.WordLemmas.{digit_word, scan_on}
use Rattle.assembler.specs.Answers.{Pair}
use Rattle.assembler.specs.Laws.{IsSmallPair}
use Rattle.assembler.specs.Pairs.{HasSmallNumbers, HasSmallSkip}
use Rattle.assembler.proofs.ItemLemmas.{pattern_reader, template_reader}
use Rattle.assembler.proofs.NumberLemmas.{digit_is, digit_range}
use Rattle.assembler.proofs.Readers.{NoDigit}
use Rattle.source_compile.proofs.Spelling.{behind_number, behind_pattern, letter_text, letter_tokens, pair_tokens, pattern_tokens, template_tokens, tokens_of}

-- a scan with more tokens, up to this end
abbrev scanned : Scan → List Token → ℕ → Scan
scanned found tokens end = record { tokens = found.tokens ++ tokens; end = end; met = found.met }

-- a text that stands at a place, before the rest, is scanned to these tokens
abbrev Scans : ℕ → List ℕ → List Token → List ℕ → Type 0
Scans at text tokens rest = (found : Scan) → (end : ℕ) × (scan 0 found at (text ++ rest) ≡ scan 0 (scanned found tokens end) (at + length text) rest)

nothing_scans : (at : ℕ) (rest : List ℕ) → Scans at [] [] rest
nothing_scans at rest found =
    let make : List Token → Scan = λ t. record { tokens = t; end = found.end; met = found.met } in
    let here : at ≡ at + 0 = omega arith in
    (found.end, ap (λ t. scan 0 (make t) at rest) (sym (append-nil found.tokens)) ∙ ap (λ n. scan 0 (make (found.tokens ++ [])) n rest) here)

both_scan : (at : ℕ) (a b : List ℕ) (s t : List Token) (rest : List ℕ) → Scans at a s (b ++ rest) → Scans (at + length a) b t rest → Scans at (a ++ b) (s ++ t) rest
both_scan at a b s t rest first second found =
    let x = first found in
    let y = second (scanned found s x.0) in
    let make : List Token → Scan = λ l. record { tokens = l; end = y.0; met = found.met } in
    let place : at + length a + length b ≡ at + length (a ++ b) = omega (arith, length-append a b) in (
      y.0,
      ap (scan 0 found at) (append_assoc a b rest) ∙ x.1 ∙ y.1
          ∙ ap (λ l. scan 0 (make l) (at + length a + length b) rest) (append_assoc found.tokens s t)
          ∙ ap (λ n. scan 0 (make (found.tokens ++ (s ++ t))) n rest) place,
    )

word_scan : (found : Scan) (at byte : ℕ) (bytes : List ℕ) (read : Reading) → is_blank byte ≡ false → word_at found.met (byte ∷ bytes) ≡ read
    → scan 0 found at (byte ∷ bytes) ≡ scan read.more (with_word found read at) (at + 1) bytes
unfolding scan
word_scan found at byte bytes read other is = rw other (rw is refl)

-- signs

sign_word : (met : List (List ℕ)) (byte : ℕ) (rest : List ℕ) → is_lower byte ≡ false → is_digit byte ≡ false → byte == 45 ≡ false → word_at met (byte ∷ rest) ≡ reading (sign_of byte) 0 met
unfolding word_at
sign_word met byte [] lower digit dash = rw (lower, digit) refl
sign_word met byte (next ∷ rest) lower digit dash = rw (lower, digit, dash) refl

sign_scans : (byte at : ℕ) (rest : List ℕ) → is_blank byte ≡ false → is_lower byte ≡ false → is_digit byte ≡ false → byte == 45 ≡ false → Scans at (byte ∷ []) (token_at (sign_of byte) at ∷ []) rest
sign_scans byte at rest blank lower digit dash found =
    (at + (0 + 1), word_scan found at byte rest (reading (sign_of byte) 0 found.met) blank (sign_word found.met byte rest lower digit dash))

letter_scans : (b : BaseOf) (at : ℕ) (rest : List ℕ) → Scans at (letter_text b) (letter_tokens at b) rest
letter_scans I at rest = sign_scans 73 at rest refl refl refl refl
letter_scans C at rest = sign_scans 67 at rest refl refl refl refl
letter_scans F at rest = sign_scans 70 at rest refl refl refl refl
letter_scans P at rest = sign_scans 80 at rest refl refl refl refl

letters_scan : (s : List BaseOf) (at : ℕ) (rest : List ℕ) → Scans at (letters_text s) (tokens_of letter_text letter_tokens at s) rest
letters_scan [] at rest = nothing_scans at rest
letters_scan (b ∷ s) at rest =
    both_scan at (letter_text b) (letters_text s) (letter_tokens at b) (tokens_of letter_text letter_tokens (at + 1) s) rest (letter_scans b at (letters_text s ++ rest)) (letters_scan s (at + 1) rest)

arrow_scans : (at : ℕ) (rest : List ℕ) → Scans at (codes " -> ") (token_at Arrow (at + 1) ∷ []) rest
unfolding scan word_at
arrow_scans at rest found =
    let end : ℕ = at + 1 + (1 + 1) in
    let place : at + 1 + 1 + 1 + 1 ≡ at + 4 = omega arith in
    (end, ap (λ n. scan 0 (scanned found (token_at Arrow (at + 1) ∷ []) end) n rest) place)

-- numbers

abbrev Digits : List ℕ → Type 0
Digits bytes = AllByRecursion (λ byte. is_digit byte ≡ true) bytes

both_digits : (a b : List ℕ) → Digits a → Digits b → Digits (a ++ b)
both_digits [] b x y = y
both_digits (byte ∷ a) b x y = (x.0, both_digits a b x.1 y)

digit_more : (digits : List ℕ) (byte : ℕ) → number_of (digits ++ byte ∷ []) ≡ with_digit (number_of digits) byte
unfolding number_of
digit_more digits byte = fold-append with_digit 0 digits (byte ∷ [])

no_digits : number_of [] ≡ 0
unfolding number_of
no_digits = refl

-- digits are written, and stand for the number
record Stands (n : ℕ) (digits : List ℕ) : Type 0 where
  are : Digits digits
  some : 0 < length digits
  value : number_of digits ≡ n

stands_one : (n : ℕ) → n < 10 → Stands n (decimal n)
stands_one n few =
    let value : number_of ((48 + n) ∷ []) ≡ n = digit_more [] (48 + n) ∙ omega (arith, no_digits) in
    subst (Stands n) (sym (decimal_digit n few)) (record { are = (digit_is (48 + n) (omega arith) (omega (arith, few)), tt); some = omega arith; value = value })

stands_more : (n : ℕ) → 10 ≤ n → n < 2 ^ 63 → Stands (n / 10) (decimal (n / 10)) → Stands n (decimal n)
stands_more n many small before =
    let tens : ℕ = n / 10 in
    let digit : ℕ = 48 + n % 10 in
    let is : decimal n ≡ decimal tens ++ (digit ∷ []) = decimal_step n many (omega arith) in
    let value : number_of (decimal tens ++ (digit ∷ [])) ≡ n = digit_more (decimal tens) digit ∙ omega (arith, before.value) in
    subst (Stands n) (sym is) (record {
      are = both_digits (decimal tens) (digit ∷ []) before.are (digit_is digit (omega arith) (omega arith), tt);
      some = omega (arith, length-append (decimal tens) (digit ∷ []));
      value = value;
    })

stands_within : (most n : ℕ) → n ≤ most → n < 2 ^ 63 → Stands n (decimal n)
stands_within zero n few small = stands_one n (omega arith)
stands_within (suc most) n few small =
    elim (cases_lt n 10) as (λ _. Stands n (decimal n)) [
      | inl one ↦ stands_one n one
      | inr many ↦ stands_more n many small (stands_within most (n / 10) (omega arith) (omega arith))
    ]

stretch_is : (digits rest : List ℕ) → Digits digits → NoDigit rest → prefix_len is_digit (digits ++ rest) ≡ length digits
stretch_is [] [] are bars = refl
stretch_is [] (byte ∷ rest) are bars = rw bars refl
stretch_is (byte ∷ digits) rest are bars = rw are.0 (omega (arith, stretch_is digits rest are.1 bars))

digits_word : (met : List (List ℕ)) (byte : ℕ) (more rest : List ℕ) → Digits (byte ∷ more) → NoDigit rest
    → word_at met (byte ∷ (more ++ rest)) ≡ reading (Number (min (number_of (byte ∷ more)) (2 ^ 63))) (length more) met
digits_word met byte more rest are bars =
    let range = digit_range byte are.0 in
    let lower : is_lower byte ≡ false = rw (lt-leb 97 byte (omega (arith, range.1))) refl in
    let all : length more + 1 ≡ length (byte ∷ more) = omega arith in
    let front : take (length more + 1) (byte ∷ (more ++ rest)) ≡ byte ∷ more = ap (λ n. take n (byte ∷ (more ++ rest))) all ∙ take-append_seam (byte ∷ more) rest in
    digit_word met (byte ∷ (more ++ rest)) (length more) (omega arith) (sym lower) (sym are.0) (sym (stretch_is more rest are.1 bars))
    ∙ ap (λ l. reading (Number (min (number_of l) (2 ^ 63))) (length more) met) front

no_blank : (byte : ℕ) → 48 ≤ byte → is_blank byte ≡ false
no_blank byte low = rw (ne_eqb byte 32 (λ e. omega (arith, e)), ne_eqb byte 9 (λ e. omega (arith, e)), ne_eqb byte 13 (λ e. omega (arith, e))) refl

digits_scan : (digits : List ℕ) (n at : ℕ) (rest : List ℕ) → Stands n digits → n < 2 ^ 63 → NoDigit rest → Scans at digits (token_at (Number n) at ∷ []) rest
digits_scan [] n at rest is small bars found = absurd (omega (arith, is.some))
digits_scan (byte ∷ more) n at rest is small bars found =
    let range = digit_range byte is.are.0 in
    let value : min (number_of (byte ∷ more)) (2 ^ 63) ≡ n = omega (arith, is.value) in
    let word : word_at found.met (byte ∷ (more ++ rest)) ≡ reading (Number n) (length more) found.met =
    digits_word found.met byte more rest is.are bars ∙ ap (λ k. reading (Number k) (length more) found.met) value in
    let blank : is_blank byte ≡ false = no_blank byte range.0 in
    let next : Scan = with_word found (reading (Number n) (length more) found.met) at in
    let place : at + 1 + length more ≡ at + suc (length more) = omega arith in (
      at + (length more + 1),
      word_scan found at byte (more ++ rest) (reading (Number n) (length more) found.met) blank word
          ∙ scan_on (length more) next (at + 1) (more ++ rest) (omega (arith, length-append more rest))
          ∙ ap (scan 0 next (at + 1 + length more)) (drop-append_seam more rest)
          ∙ ap (λ k. scan 0 next k rest) place,
    )

number_scans : (n at : ℕ) (rest : List ℕ) → n < 2 ^ 63 → NoDigit rest → Scans at (number_text n) (token_at (Number n) at ∷ []) rest
number_scans n at rest small bars =
    subst (λ l. Scans at l (token_at (Number n) at ∷ []) rest) (sym (small_text n small)) (digits_scan (decimal n) n at rest (stands_within n n (omega arith) small) small bars)

-- items

search_scans : (s : List BaseOf) (at : ℕ) (rest : List ℕ) → Scans at (pattern_item_text (pat.Search s)) (pattern_tokens at (pat.Search s)) rest
search_scans s at rest =
    let letters : List Token = tokens_of letter_text letter_tokens (at + 1) s in
    let place : at + 1 + length (letters_text s) ≡ at + 1 + length s = omega (arith, length-map s letter_of) in
    let end : Scans (at + 1 + length (letters_text s)) (codes ">") (token_at Greater (at + 1 + length s) ∷ []) rest =
    subst (λ n. Scans (at + 1 + length (letters_text s)) (codes ">") (token_at Greater n ∷ []) rest) place (sign_scans 62 (at + 1 + length (letters_text s)) rest refl refl refl refl) in
    both_scan at (codes "<") (letters_text s ++ codes ">") _ (letters ++ token_at Greater (at + 1 + length s) ∷ []) rest
    (sign_scans 60 at ((letters_text s ++ codes ">") ++ rest) refl refl refl refl)
    (both_scan (at + 1) (letters_text s) (codes ">") letters (token_at Greater (at + 1 + length s) ∷ []) rest (letters_scan s (at + 1) (codes ">" ++ rest)) end)

item_scans : (x : PatItem) (at : ℕ) (rest : List ℕ) → HasSmallSkip x → NoDigit rest → Scans at (pattern_item_text x) (pattern_tokens at x) rest
item_scans (pat.Base b) at rest small bars = letter_scans b at rest
item_scans (pat.Skip n) at rest small bars =
    both_scan at (codes "!") (number_text n) _ (token_at (Number n) (at + 1) ∷ []) rest (sign_scans 33 at (number_text n ++ rest) refl refl refl refl) (number_scans n (at + 1) rest small bars)
item_scans (pat.Search s) at rest small bars = search_scans s at rest
item_scans pat.GroupStart at rest small bars = sign_scans 40 at rest refl refl refl refl
item_scans pat.GroupStop at rest small bars = sign_scans 41 at rest refl refl refl refl

-- a number and the sign that ends it
ended_scans : (n byte at : ℕ) (rest : List ℕ) → n < 2 ^ 63 → is_blank byte ≡ false → is_lower byte ≡ false → is_digit byte ≡ false → byte == 45 ≡ false
    → Scans at (number_text n ++ (byte ∷ [])) (token_at (Number n) at ∷ token_at (sign_of byte) (at + length (number_text n)) ∷ []) rest
ended_scans n byte at rest small blank lower digit dash =
    both_scan at (number_text n) (byte ∷ []) (token_at (Number n) at ∷ []) (token_at (sign_of byte) (at + length (number_text n)) ∷ []) rest
    (number_scans n at (byte ∷ rest) small digit) (sign_scans byte (at + length (number_text n)) rest blank lower digit dash)

group_scans : (n level at : ℕ) (rest : List ℕ) → n < 2 ^ 63 → level < 2 ^ 63 → Scans at (template_item_text (tpl.Group n level)) (template_tokens at (tpl.Group n level)) rest
group_scans n level at rest small low =
    let place : ℕ = behind_number at n in
    let more : List ℕ = number_text level ++ codes "}" in
    both_scan at (codes "{") (number_text n ++ (codes "," ++ more)) _ _ rest (sign_scans 123 at ((number_text n ++ (codes "," ++ more)) ++ rest) refl refl refl refl)
    (both_scan (at + 1) (number_text n) (codes "," ++ more) (token_at (Number n) (at + 1) ∷ []) _ rest (number_scans n (at + 1) ((codes "," ++ more) ++ rest) small refl)
    (both_scan place (codes ",") more _ _ rest (sign_scans 44 place (more ++ rest) refl refl refl refl) (ended_scans level 125 (place + 1) rest low refl refl refl refl)))

put_scans : (x : TplItem) (at : ℕ) (rest : List ℕ) → HasSmallNumbers x → NoDigit rest → Scans at (template_item_text x) (template_tokens at x) rest
put_scans (tpl.Base b) at rest small bars = letter_scans b at rest
put_scans (tpl.Group n level) at rest small bars = group_scans n level at rest small.0 small.1
put_scans (tpl.Len n) at rest small bars =
    both_scan at (codes "|") (number_text n ++ codes "|") _ _ rest (sign_scans 124 at ((number_text n ++ codes "|") ++ rest) refl refl refl refl) (ended_scans n 124 (at + 1) rest small refl refl refl refl)

module _ {X : Type 0} (text : X → List ℕ) (each : ℕ → X → List Token) (Small : X → Type 0)
    (one : (x : X) (at : ℕ) (rest : List ℕ) → Small x → NoDigit rest → Scans at (text x) (each at x) rest)
    (heads : (x : X) (rest : List ℕ) → NoDigit (text x ++ rest)) where
  no_digit : (xs : List X) (rest : List ℕ) → NoDigit rest → NoDigit (flat_map text xs ++ rest)
  no_digit [] rest bars = bars
  no_digit (x ∷ xs) rest bars = subst NoDigit (sym (append_assoc (text x) (flat_map text xs) rest)) (heads x (flat_map text xs ++ rest))

  items_scan : (xs : List X) (at : ℕ) (rest : List ℕ) → AllByRecursion Small xs → NoDigit rest → Scans at (flat_map text xs) (tokens_of text each at xs) rest
  items_scan [] at rest small bars = nothing_scans at rest
  items_scan (x ∷ xs) at rest small bars =
      let next : ℕ = at + length (text x) in
      both_scan at (text x) (flat_map text xs) (each at x) (tokens_of text each next xs) rest (one x at (flat_map text xs ++ rest) small.0 (no_digit xs rest bars)) (items_scan xs next rest small.1 bars)

pair_scans : (pair : Pair) (at : ℕ) → IsSmallPair pair → Scans at (pair_text pair.0 pair.1) (pair_tokens at pair) []
pair_scans pair at small =
    let place : ℕ = behind_pattern at pair in
    let puts : List Token = tokens_of template_item_text template_tokens (place + 4) pair.1 in
    both_scan at (pattern_text pair.0) (codes " -> " ++ template_text pair.1) (tokens_of pattern_item_text pattern_tokens at pair.0) (token_at Arrow (place + 1) ∷ puts) []
    (items_scan pattern_item_text pattern_tokens HasSmallSkip item_scans pattern_reader.heads pair.0 at ((codes " -> " ++ template_text pair.1) ++ []) small.0 refl)
    (both_scan place (codes " -> ") (template_text pair.1) (token_at Arrow (place + 1) ∷ []) puts [] (arrow_scans place (template_text pair.1 ++ []))
    (items_scan template_item_text template_tokens HasSmallNumbers put_scans template_reader.heads pair.1 (place + 4) [] small.1 tt))

-- the line of a pair
pub pair_scanned : (met : List (List ℕ)) (at : ℕ) (pair : Pair) → IsSmallPair pair
    → (end : ℕ) × (line_scan met at (pair_text pair.0 pair.1) ≡ record { tokens = pair_tokens at pair; end = end; met = met })
unfolding scan
pair_scanned met at pair small =
    let line : List ℕ = pair_text pair.0 pair.1 in
    let read = pair_scans pair at small (nothing_yet met at) in
    (read.0, ap (scan 0 (nothing_yet met at) at) (sym (append-nil line)) ∙ read.1)
