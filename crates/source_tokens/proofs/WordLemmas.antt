-- Words and lines of them.
use Rattle.std.proofs.Common.{◌≡◌, ℕ, zero, suc, ◌+◌, ◌^◌, ◌<◌, ◌≤◌, true, false, List, [], ◌∷◌, ◌++◌, length, drop, take, get_or, arith, refl, sym, ap, ◌∙◌, add-one, min}
use Rattle.std.proofs.lemmas.List.Sums.{fold_more}
use Rattle.std.proofs.lemmas.List.{drop-drop, drop_all}
use Rattle.fuun_base.specs.Letter.{is_blank}
use Rattle.source_tokens.specs.declared.bytes.Kind.TheVariants.{Digit, NamePart}
use Rattle.source_tokens.specs.declared.words.Token.{Token}
use Rattle.source_tokens.specs.declared.words.Word.{Word}
use Rattle.source_tokens.specs.declared.words.Word.TheVariants.{Number}
use Rattle.fuun_base.specs.Decimals.{is_digit}
use Rattle.source_tokens.specs.Bytes.{is_lower, stretch}
use Rattle.source_tokens.specs.Words.{Reading, Scan, name_at, number_of, reading, scan, token_at, with_digit, with_word, word_at}
use Rattle.source_tokens.proofs.Steps.{next_byte}

-- numbers

pub number_none : 0 ≡ min (number_of []) (2 ^ 63)
unfolding number_of
number_none = refl

held_digit : (n byte : ℕ) → min (with_digit (min n (2 ^ 63)) byte) (2 ^ 63) ≡ min (with_digit n byte) (2 ^ 63)
held_digit n byte = omega arith

pub number_more : (digits : List ℕ) (i : ℕ) → i < length digits
    → min (with_digit (min (number_of (take i digits)) (2 ^ 63)) (get_or digits i 0)) (2 ^ 63) ≡ min (number_of (take (i + 1) digits)) (2 ^ 63)
unfolding number_of
number_more digits i within =
    held_digit (number_of (take i digits)) (get_or digits i 0) ∙ ap (λ n. min n (2 ^ 63)) (sym (fold_more with_digit 0 digits i 0 within))

-- words

pub lower_word : (met : List (List ℕ)) (bytes : List ℕ) (more : ℕ) → 0 < length bytes → true ≡ is_lower (get_or bytes 0 0)
    → more ≡ stretch NamePart (drop 1 bytes) → word_at met bytes ≡ name_at met (take (more + 1) bytes) more
unfolding word_at
lower_word met [] more some is e = absurd (omega arith)
lower_word met (byte ∷ rest) more some is e =
    rw (← is, ← e, add-one) refl

pub digit_word : (met : List (List ℕ)) (bytes : List ℕ) (more : ℕ) → 0 < length bytes → false ≡ is_lower (get_or bytes 0 0) → true ≡ is_digit (get_or bytes 0 0)
    → more ≡ stretch Digit (drop 1 bytes) → word_at met bytes ≡ reading (Number (min (number_of (take (more + 1) bytes)) (2 ^ 63))) more met
unfolding word_at
digit_word met [] more some other is e = absurd (omega arith)
digit_word met (byte ∷ rest) more some other is e =
    rw (← other, ← is, ← e, add-one) refl

-- lines of words

pub scan_on : (more : ℕ) (found : Scan) (at : ℕ) (bytes : List ℕ) → more ≤ length bytes → scan more found at bytes ≡ scan 0 found (at + more) (drop more bytes)
unfolding scan
scan_on zero found at bytes within =
    let same : at ≡ at + 0 = omega arith in
    ap (λ n. scan 0 found n bytes) same
scan_on (suc more) found at [] within = refl
scan_on (suc more) found at (byte ∷ bytes) within =
    let same : at + 1 + more ≡ at + suc more = omega arith in
    scan_on more found (at + 1) bytes (omega arith) ∙ ap (λ n. scan 0 found n (drop more bytes)) same

blank_first : (found : Scan) (at : ℕ) (byte : ℕ) (bytes : List ℕ) → is_blank byte ≡ true → scan 0 found at (byte ∷ bytes) ≡ scan 0 found (at + 1) bytes
unfolding scan
blank_first found at byte bytes is = rw is refl

word_first : (found : Scan) (at : ℕ) (byte : ℕ) (bytes : List ℕ) → is_blank byte ≡ false
    → scan 0 found at (byte ∷ bytes) ≡ scan (word_at found.met (byte ∷ bytes)).more (with_word found (word_at found.met (byte ∷ bytes)) at) (at + 1) bytes
unfolding scan
word_first found at byte bytes other = rw other refl

pub scan_end : (found whole : Scan) (at place : ℕ) (line : List ℕ) → length line ≤ place → scan 0 found (at + place) (drop place line) ≡ whole → found ≡ whole
unfolding scan
scan_end found whole at place line past before = sym (ap (scan 0 found (at + place)) (drop_all place line past)) ∙ before

pub blank_more : (found whole : Scan) (at place : ℕ) (line : List ℕ) → place < length line → is_blank (get_or line place 0) ≡ true
    → scan 0 found (at + place) (drop place line) ≡ whole → scan 0 found (at + (place + 1)) (drop (place + 1) line) ≡ whole
blank_more found whole at place line within is before =
    let same : at + (place + 1) ≡ at + place + 1 = omega arith in
    ap (λ n. scan 0 found n (drop (place + 1) line)) same
    ∙ sym (blank_first found (at + place) (get_or line place 0) (drop (place + 1) line) is)
    ∙ sym (ap (scan 0 found (at + place)) (next_byte line place within))
    ∙ before

-- what a reading adds to a scan, by its parts
pub found_with : (found : Scan) (read : Reading) (word : Word) (more at : ℕ) (met : List (List ℕ)) (tokens : List Token)
    → word ≡ read.word → more ≡ read.more → met ≡ read.met → tokens ≡ found.tokens ++ token_at word at ∷ []
    → ◌≡◌ {A = Scan} (record { tokens = tokens; end = at + (more + 1); met = met }) (with_word found read at)
found_with found read word more at met tokens a b c d =
    let make : List Token → ℕ → List (List ℕ) → Scan = λ t e m. record { tokens = t; end = e; met = m } in
    ap (λ t. make t (at + (more + 1)) met) (d ∙ ap (λ w. found.tokens ++ token_at w at ∷ []) a)
    ∙ ap (λ n. make (with_word found read at).tokens (at + (n + 1)) met) b
    ∙ ap (make (with_word found read at).tokens (at + (read.more + 1))) c

pub word_more : (found whole : Scan) (at place : ℕ) (line : List ℕ) (word : Word) (more : ℕ) (met : List (List ℕ)) (tokens : List Token)
    → place < length line → is_blank (get_or line place 0) ≡ false
    → word ≡ (word_at found.met (drop place line)).word → more ≡ (word_at found.met (drop place line)).more → met ≡ (word_at found.met (drop place line)).met
    → more < length (drop place line) → tokens ≡ found.tokens ++ token_at word (at + place) ∷ []
    → scan 0 found (at + place) (drop place line) ≡ whole
    → scan 0 (record { tokens = tokens; end = at + (place + (more + 1)); met = met }) (at + (place + (more + 1))) (drop (place + (more + 1)) line) ≡ whole
word_more found whole at place line word more met tokens within other a b c short d before =
    let next = next_byte line place within in
    let rest : List ℕ = drop (place + 1) line in
    let read : Reading = word_at found.met (get_or line place 0 ∷ rest) in
    let read_is : word_at found.met (drop place line) ≡ read = ap (word_at found.met) next in
    let adds : ◌≡◌ {A = Scan} (record { tokens = tokens; end = at + place + (more + 1); met = met }) (with_word found read (at + place)) =
    found_with found read word more (at + place) met tokens (a ∙ ap (λ r. r.word) read_is) (b ∙ ap (λ r. r.more) read_is) (c ∙ ap (λ r. r.met) read_is) d in
    let room : more ≤ length rest = omega (arith, ap length next) in
    let end : at + (place + (more + 1)) ≡ at + place + (more + 1) = omega arith in
    let on : at + (place + (more + 1)) ≡ at + place + 1 + more = omega arith in
    let left : drop (place + (more + 1)) line ≡ drop more rest =
    ap (λ n. drop n line) (let e : place + (more + 1) ≡ place + 1 + more = omega arith in e) ∙ sym (drop-drop more (place + 1) line) in
    let make : ℕ → Scan = λ e. record { tokens = tokens; end = e; met = met } in
    ap (λ e. scan 0 (make e) (at + (place + (more + 1))) (drop (place + (more + 1)) line)) end
    ∙ ap (λ f. scan 0 f (at + (place + (more + 1))) (drop (place + (more + 1)) line)) adds
    ∙ ap (λ n. scan 0 (with_word found read (at + place)) n (drop (place + (more + 1)) line)) on
    ∙ ap (scan 0 (with_word found read (at + place)) (at + place + 1 + more)) left
    ∙ sym (scan_on more (with_word found read (at + place)) (at + place + 1) rest room)
    ∙ ap (λ n. scan n (with_word found read (at + place)) (at + place + 1) rest) (b ∙ ap (λ r. r.more) read_is)
    ∙ sym (word_first found (at + place) (get_or line place 0) rest other)
    ∙ sym (ap (scan 0 found (at + place)) next)
    ∙ before
