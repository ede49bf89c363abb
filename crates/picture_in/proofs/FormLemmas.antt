-- What stands behind a header is computed of each header, and of nothing else.
use Rattle.std.proofs.Common.{◌≡◌, ℕ, ◌+◌, ◌-◌, ◌*◌, ◌<◌, ◌⊎◌, inl, inr, Bool, true, false, Some, None, List, [], ◌∷◌, ◌++◌, flat_map, length, refl, sym, ap, ◌∙◌, subst, arith, append_assoc}
use Rattle.std.specs.Prelude.{◌==◌, ◌&&◌, ◌||◌, not}
use Rattle.std.specs.List.{list_all}
use Rattle.std.specs.Option.{option_and_then}
use Rattle.std.proofs.lemmas.Bool.{eqb-true, eq-eqb}
use Rattle.std.proofs.lemmas.Bool.Decides.{nat_tests}
use Rattle.std.proofs.lemmas.Option.{option_and_then_some, same_Some}
use Rattle.fuun_base.specs.Decimals.{is_digit}
use Rattle.picture_in.specs.Header.{behind_blanks, behind_digits, behind_gap, behind_header, behind_kind, behind_number, behind_white, behind_word, is_white}
use Rattle.picture_in.specs.Form.{AreBlanks, Blank, Comment, HeaderIsFound, IsGap, IsNumber, IsWord, OnlyHeaderIsFound, White, blank_bytes, value_of}
use Rattle.picture_in.proofs.HeaderLemmas.{blanks_end, comment_begins, comment_ends, comment_more, digit_more, digits_end, white_more}

-- tests

bool_cases : (b : Bool) → (b ≡ true) ⊎ (b ≡ false)
bool_cases true = inl refl
bool_cases false = inr refl

both_true : (a b : Bool) → (a && b) ≡ true → (a ≡ true) × (b ≡ true)
both_true true b e = (refl, e)
both_true false b e = cc

not_true : (b : Bool) → not b ≡ true → b ≡ false
not_true true e = cc
not_true false e = refl

white_no_digit : (byte : ℕ) → is_white byte ≡ true → is_digit byte ≡ false
white_no_digit byte is = grind (arith, nat_tests)

digit_no_white : (byte : ℕ) → is_digit byte ≡ true → is_white byte ≡ false
digit_no_white byte is = grind (arith, nat_tests)

digit_no_comment : (byte : ℕ) → is_digit byte ≡ true → (byte == 35) ≡ false
digit_no_comment byte is = grind (arith, nat_tests)

-- a header is found

-- no digit stands in front
abbrev EndsDigits : List ℕ → Type 0
EndsDigits [] = Unit {0}
EndsDigits (byte ∷ rest) = is_digit byte ≡ false

comment_passed : (inner more tail : List ℕ) → list_all (λ byte. not (byte == 10)) inner ≡ true → behind_blanks true (((inner ++ 10 ∷ []) ++ more) ++ tail) ≡ behind_blanks false (more ++ tail)
comment_passed [] more tail is = refl
comment_passed (byte ∷ inner) more tail is =
    let parts = both_true (not (byte == 10)) (list_all (λ byte. not (byte == 10)) inner) is in
    comment_more byte (((inner ++ 10 ∷ []) ++ more) ++ tail) (not_true (byte == 10) parts.0) ∙ comment_passed inner more tail parts.1

blanks_passed : (blanks : List Blank) (tail : List ℕ) → AreBlanks blanks → behind_blanks false (flat_map blank_bytes blanks ++ tail) ≡ behind_blanks false tail
blanks_passed [] tail are = refl
blanks_passed (White byte ∷ blanks) tail are = white_more byte (flat_map blank_bytes blanks ++ tail) are.0 ∙ blanks_passed blanks tail are.1
blanks_passed (Comment inner ∷ blanks) tail are = comment_passed inner (flat_map blank_bytes blanks) tail are.0 ∙ blanks_passed blanks tail are.1

gap_begins : (byte : ℕ) (rest : List ℕ) → (is_white byte || byte == 35) ≡ true → behind_gap (byte ∷ rest) ≡ behind_blanks false (byte ∷ rest)
gap_begins byte rest is = rw is refl

or_first : (a b : Bool) → a ≡ true → (a || b) ≡ true
or_first a b is = rw is refl

gap_starts : (blanks : List Blank) (tail : List ℕ) → 0 < length blanks → AreBlanks blanks → behind_gap (flat_map blank_bytes blanks ++ tail) ≡ behind_blanks false (flat_map blank_bytes blanks ++ tail)
gap_starts [] tail some are = absurd (omega arith)
gap_starts (White byte ∷ blanks) tail some are = gap_begins byte (flat_map blank_bytes blanks ++ tail) (or_first (is_white byte) (byte == 35) are.0)
gap_starts (Comment inner ∷ blanks) tail some are = refl

gap_passed : (gap : List ℕ) (digit : ℕ) (rest : List ℕ) → IsGap gap → is_digit digit ≡ true → behind_gap (gap ++ digit ∷ rest) ≡ Some (digit ∷ rest)
gap_passed gap digit rest is next =
    ap (λ l. behind_gap (l ++ digit ∷ rest)) is.is
    ∙ gap_starts is.blanks (digit ∷ rest) is.some is.are
    ∙ blanks_passed is.blanks (digit ∷ rest) is.are
    ∙ blanks_end digit rest (digit_no_white digit next) (digit_no_comment digit next)

gap_no_digit : (blanks : List Blank) (tail : List ℕ) → 0 < length blanks → AreBlanks blanks → EndsDigits (flat_map blank_bytes blanks ++ tail)
gap_no_digit [] tail some are = absurd (omega arith)
gap_no_digit (White byte ∷ blanks) tail some are = white_no_digit byte are.0
gap_no_digit (Comment inner ∷ blanks) tail some are = refl

word_no_digit : (value : ℕ) (bytes tail : List ℕ) → IsWord value bytes → EndsDigits (bytes ++ tail)
word_no_digit value bytes tail is =
    let gap = is.is_gap in
    let all : bytes ++ tail ≡ flat_map blank_bytes gap.blanks ++ (is.number ++ tail) =
    ap (λ l. l ++ tail) (is.whole ∙ ap (λ l. l ++ is.number) gap.is) ∙ append_assoc (flat_map blank_bytes gap.blanks) is.number tail in
    subst EndsDigits (sym all) (gap_no_digit gap.blanks (is.number ++ tail) gap.some gap.are)

digits_passed : (value : ℕ) (digits tail : List ℕ) → list_all is_digit digits ≡ true → EndsDigits tail → behind_digits value (digits ++ tail) ≡ (value_of value digits, tail)
digits_passed value [] [] are ends = refl
digits_passed value [] (byte ∷ tail) are ends = digits_end value byte tail ends
digits_passed value (digit ∷ digits) tail are ends =
    let parts = both_true (is_digit digit) (list_all is_digit digits) are in
    digit_more value digit (digits ++ tail) parts.0 ∙ digits_passed (10 * value + (digit - 48)) digits tail parts.1 ends

number_at : (value digit : ℕ) (rest : List ℕ) (read : ℕ × List ℕ) → is_digit digit ≡ true → behind_digits (10 * 0 + (digit - 48)) rest ≡ read → (read.0 == value) ≡ true → behind_number value (digit ∷ rest) ≡ Some read.1
number_at value digit rest read is reads test = rw is (rw reads (rw test refl))

word_by : (value : ℕ) (gap number tail : List ℕ) → IsGap gap → IsNumber value number → EndsDigits tail → behind_word value (gap ++ (number ++ tail)) ≡ Some tail
unfolding behind_word
word_by value gap [] tail is_gap is ends = let some = is.some in absurd (omega arith)
word_by value gap (digit ∷ digits) tail is_gap is ends =
    let parts = both_true (is_digit digit) (list_all is_digit digits) is.digits in
    let first : ℕ = 10 * 0 + (digit - 48) in
    ap (λ o. option_and_then (behind_number value) o) (gap_passed gap digit (digits ++ tail) is_gap parts.0)
    ∙ number_at value digit (digits ++ tail) (value_of first digits, tail) parts.0 (digits_passed first digits tail parts.1 ends) (eq-eqb (value_of first digits) value is.value_is)

word_passed : (value : ℕ) (bytes tail : List ℕ) → IsWord value bytes → EndsDigits tail → behind_word value (bytes ++ tail) ≡ Some tail
word_passed value bytes tail is ends =
    ap (λ l. behind_word value (l ++ tail)) is.whole
    ∙ ap (behind_word value) (append_assoc is.gap is.number tail)
    ∙ word_by value is.gap is.number tail is.is_gap is.is_number ends

white_at : (byte : ℕ) (rest : List ℕ) → is_white byte ≡ true → behind_white (byte ∷ rest) ≡ Some rest
white_at byte rest is = rw is refl

pub header_is_found : HeaderIsFound
unfolding behind_header
header_is_found bytes rest is =
    let last : List ℕ = is.white ∷ rest in
    let third : List ℕ = is.highest ++ last in
    let second : List ℕ = is.height ++ third in
    let kind : behind_kind bytes ≡ Some (is.width ++ second) = ap behind_kind is.whole in
    let width = word_passed 600 is.width second is.is_width (word_no_digit 600 is.height third is.is_height) in
    let height = word_passed 600 is.height third is.is_height (word_no_digit 255 is.highest last is.is_highest) in
    let highest = word_passed 255 is.highest last is.is_highest (white_no_digit is.white is.is_end) in
    rw kind (rw width (rw height (rw highest (white_at is.white rest is.is_end))))

-- and nothing else

-- blanks stand before the rest, or the end of a comment and then blanks
record BlanksStand (bytes rest : List ℕ) : Type 0 where
  blanks : List Blank
  are : AreBlanks blanks
  is : bytes ≡ flat_map blank_bytes blanks ++ rest

record CommentEnds (bytes rest : List ℕ) : Type 0 where
  inner : List ℕ
  one_line : list_all (λ byte. not (byte == 10)) inner ≡ true
  more : List ℕ
  behind : BlanksStand more rest
  is : bytes ≡ inner ++ 10 ∷ more

abbrev Stands : Bool → List ℕ → List ℕ → Type 0
Stands true bytes rest = CommentEnds bytes rest
Stands false bytes rest = BlanksStand bytes rest

-- a first blank before others
record GapStands (bytes rest : List ℕ) : Type 0 where
  first : Blank
  others : List Blank
  are : AreBlanks (first ∷ others)
  is : bytes ≡ flat_map blank_bytes (first ∷ others) ++ rest

with_white : (byte : ℕ) (bytes rest : List ℕ) → is_white byte ≡ true → BlanksStand bytes rest → GapStands (byte ∷ bytes) rest
with_white byte bytes rest white stands = record { first = White byte; others = stands.blanks; are = (white, stands.are); is = ap (λ l. byte ∷ l) stands.is }

with_comment : (byte : ℕ) (bytes rest : List ℕ) → (byte == 35) ≡ true → CommentEnds bytes rest → GapStands (byte ∷ bytes) rest
with_comment byte bytes rest is ends =
    let more : List ℕ = flat_map blank_bytes ends.behind.blanks in
    let all : bytes ≡ ((ends.inner ++ 10 ∷ []) ++ more) ++ rest =
    ends.is
    ∙ ap (λ l. ends.inner ++ 10 ∷ l) ends.behind.is
    ∙ sym (append_assoc ends.inner (10 ∷ []) (more ++ rest))
    ∙ sym (append_assoc (ends.inner ++ 10 ∷ []) more rest) in
    record {
      first = Comment ends.inner;
      others = ends.behind.blanks;
      are = (ends.one_line, ends.behind.are);
      is = ap (λ b. b ∷ bytes) (eqb-true byte 35 is) ∙ ap (λ l. 35 ∷ l) all;
    }

gap_is_blanks : (bytes rest : List ℕ) → GapStands bytes rest → BlanksStand bytes rest
gap_is_blanks bytes rest gap = record { blanks = gap.first ∷ gap.others; are = gap.are; is = gap.is }

one_line_more : (byte : ℕ) (inner : List ℕ) → (byte == 10) ≡ false → list_all (λ b. not (b == 10)) inner ≡ true → list_all (λ b. not (b == 10)) (byte ∷ inner) ≡ true
one_line_more byte inner other is = rw other is

blanks_found : (bytes : List ℕ) (in_comment : Bool) (rest : List ℕ) → behind_blanks in_comment bytes ≡ Some rest → Stands in_comment bytes rest
blanks_found [] true rest e = cc
blanks_found [] false rest e = record { blanks = []; are = tt; is = same_Some [] rest e }
blanks_found (byte ∷ bytes) true rest e =
    elim (bool_cases (byte == 10)) [
      | inl is ↦
          record { inner = []; one_line = refl; more = bytes; behind = blanks_found bytes false rest (sym (comment_ends byte bytes is) ∙ e); is = ap (λ b. b ∷ bytes) (eqb-true byte 10 is) }
      | inr other ↦
          let ends = blanks_found bytes true rest (sym (comment_more byte bytes other) ∙ e) in
          record { inner = byte ∷ ends.inner; one_line = one_line_more byte ends.inner other ends.one_line; more = ends.more; behind = ends.behind; is = ap (λ l. byte ∷ l) ends.is }
    ]
blanks_found (byte ∷ bytes) false rest e =
    elim (bool_cases (is_white byte)) [
      | inl white ↦ gap_is_blanks (byte ∷ bytes) rest (with_white byte bytes rest white (blanks_found bytes false rest (sym (white_more byte bytes white) ∙ e)))
      | inr black ↦ elim (bool_cases (byte == 35)) [
        | inl is ↦ gap_is_blanks (byte ∷ bytes) rest (with_comment byte bytes rest is (blanks_found bytes true rest (sym (comment_begins byte bytes black is) ∙ e)))
        | inr other ↦ record { blanks = []; are = tt; is = same_Some (byte ∷ bytes) rest (sym (blanks_end byte bytes black other) ∙ e) }
      ]
    ]

-- some bytes are of a form, and then stands the rest
abbrev Before : (List ℕ → Type 0) → List ℕ → List ℕ → Type 0
Before Is bytes rest = (front : List ℕ) × (Is front × (bytes ≡ front ++ rest))

gap_of : (bytes rest : List ℕ) → GapStands bytes rest → Before IsGap bytes rest
gap_of bytes rest gap = (flat_map blank_bytes (gap.first ∷ gap.others), (record { blanks = gap.first ∷ gap.others; some = omega arith; are = gap.are; is = refl }, gap.is))

no_gap : (byte : ℕ) (bytes rest : List ℕ) → is_white byte ≡ false → (byte == 35) ≡ false → behind_gap (byte ∷ bytes) ≡ Some rest → ⊥
no_gap byte bytes rest black other e = let none : None ≡ Some rest = rw other at (rw black at e) in cc

or_second : (a b : Bool) → b ≡ true → (a || b) ≡ true
or_second true b is = refl
or_second false b is = is

gap_found : (bytes rest : List ℕ) → behind_gap bytes ≡ Some rest → Before IsGap bytes rest
gap_found [] rest e = cc
gap_found (byte ∷ bytes) rest e =
    elim (bool_cases (is_white byte)) [
      | inl white ↦
          let begins = gap_begins byte bytes (or_first (is_white byte) (byte == 35) white) in
          gap_of (byte ∷ bytes) rest (with_white byte bytes rest white (blanks_found bytes false rest (sym (begins ∙ white_more byte bytes white) ∙ e)))
      | inr black ↦ elim (bool_cases (byte == 35)) [
        | inl is ↦
            let begins = gap_begins byte bytes (or_second (is_white byte) (byte == 35) is) in
            gap_of (byte ∷ bytes) rest (with_comment byte bytes rest is (blanks_found bytes true rest (sym (begins ∙ comment_begins byte bytes black is) ∙ e)))
        | inr other ↦ absurd (no_gap byte bytes rest black other e)
      ]
    ]

-- digits stand before what they are read up to
record DigitsStand (value : ℕ) (bytes : List ℕ) (read : ℕ × List ℕ) : Type 0 where
  digits : List ℕ
  are : list_all is_digit digits ≡ true
  value_is : value_of value digits ≡ read.0
  is : bytes ≡ digits ++ read.1

with_digit : (value digit : ℕ) (bytes : List ℕ) (read : ℕ × List ℕ) → is_digit digit ≡ true → DigitsStand (10 * value + (digit - 48)) bytes read → DigitsStand value (digit ∷ bytes) read
with_digit value digit bytes read is stands = record { digits = digit ∷ stands.digits; are = rw is stands.are; value_is = stands.value_is; is = ap (λ l. digit ∷ l) stands.is }

digits_found : (bytes : List ℕ) (value : ℕ) → DigitsStand value bytes (behind_digits value bytes)
digits_found [] value = record { digits = []; are = refl; value_is = refl; is = refl }
digits_found (byte ∷ bytes) value =
    elim (bool_cases (is_digit byte)) [
      | inl is ↦
          subst (DigitsStand value (byte ∷ bytes)) (sym (digit_more value byte bytes is)) (with_digit value byte bytes (behind_digits (10 * value + (byte - 48)) bytes) is (digits_found bytes (10 * value + (byte - 48))))
      | inr other ↦ subst (DigitsStand value (byte ∷ bytes)) (sym (digits_end value byte bytes other)) (record { digits = []; are = refl; value_is = refl; is = refl })
    ]

no_number : (value byte : ℕ) (bytes rest : List ℕ) → is_digit byte ≡ false → behind_number value (byte ∷ bytes) ≡ Some rest → ⊥
no_number value byte bytes rest other e = let none : None ≡ Some rest = rw other at e in cc

other_number : (value byte : ℕ) (bytes rest : List ℕ) → is_digit byte ≡ true → ((behind_digits (10 * 0 + (byte - 48)) bytes).0 == value) ≡ false → behind_number value (byte ∷ bytes) ≡ Some rest → ⊥
other_number value byte bytes rest is test e = let none : None ≡ Some rest = rw test at (rw is at e) in cc

number_found : (value : ℕ) (bytes rest : List ℕ) → behind_number value bytes ≡ Some rest → Before (IsNumber value) bytes rest
number_found value [] rest e = cc
number_found value (byte ∷ bytes) rest e =
    elim (bool_cases (is_digit byte)) [
      | inl is ↦
          let first : ℕ = 10 * 0 + (byte - 48) in
          let read : ℕ × List ℕ = behind_digits first bytes in
          let stands = digits_found bytes first in
          elim (bool_cases (read.0 == value)) [
            | inl test ↦
                let left : read.1 ≡ rest = same_Some read.1 rest (sym (number_at value byte bytes read is refl test) ∙ e) in (
                  byte ∷ stands.digits,
                  (
                    record { some = omega arith; digits = rw is stands.are; value_is = stands.value_is ∙ eqb-true read.0 value test },
                    ap (λ l. byte ∷ l) (stands.is ∙ ap (λ l. stands.digits ++ l) left),
                  ),
                )
            | inr other ↦ absurd (other_number value byte bytes rest is other e)
          ]
      | inr other ↦ absurd (no_number value byte bytes rest other e)
    ]

word_found : (value : ℕ) (bytes rest : List ℕ) → behind_word value bytes ≡ Some rest → Before (IsWord value) bytes rest
unfolding behind_word
word_found value bytes rest e =
    option_and_then_some (behind_number value) (behind_gap bytes) rest e (λ middle before behind.
    let gap = gap_found bytes middle before in
    let number = number_found value middle rest behind in (
      gap.0 ++ number.0,
      (
        record { gap = gap.0; number = number.0; is_gap = gap.1.0; is_number = number.1.0; whole = refl },
        gap.1.1 ∙ ap (λ l. gap.0 ++ l) number.1.1 ∙ sym (append_assoc gap.0 number.0 rest),
      ),
    ))

kind_by : (first second : ℕ) (bytes rest : List ℕ) (b : Bool) → (first == 80 && second == 54) ≡ b → behind_kind (first ∷ second ∷ bytes) ≡ Some rest → first ∷ second ∷ bytes ≡ 80 ∷ 54 ∷ rest
kind_by first second bytes rest true is e =
    let parts = both_true (first == 80) (second == 54) is in
    let found : Some bytes ≡ Some rest = rw is at e in
    ap (λ a. a ∷ second ∷ bytes) (eqb-true first 80 parts.0) ∙ ap (λ a. 80 ∷ a ∷ bytes) (eqb-true second 54 parts.1) ∙ ap (λ l. 80 ∷ 54 ∷ l) (same_Some bytes rest found)
kind_by first second bytes rest false is e = let none : None ≡ Some rest = rw is at e in absurd (cc)

kind_found : (bytes rest : List ℕ) → behind_kind bytes ≡ Some rest → bytes ≡ 80 ∷ 54 ∷ rest
kind_found [] rest e = cc
kind_found (first ∷ []) rest e = cc
kind_found (first ∷ second ∷ bytes) rest e = kind_by first second bytes rest (first == 80 && second == 54) refl e

white_by : (byte : ℕ) (bytes rest : List ℕ) (b : Bool) → is_white byte ≡ b → behind_white (byte ∷ bytes) ≡ Some rest → (is_white byte ≡ true) × (byte ∷ bytes ≡ byte ∷ rest)
white_by byte bytes rest true is e = let found : Some bytes ≡ Some rest = rw is at e in (is, ap (λ l. byte ∷ l) (same_Some bytes rest found))
white_by byte bytes rest false is e = let none : None ≡ Some rest = rw is at e in absurd (cc)

white_found : (bytes rest : List ℕ) → behind_white bytes ≡ Some rest → (white : ℕ) × ((is_white white ≡ true) × (bytes ≡ white ∷ rest))
white_found [] rest e = cc
white_found (byte ∷ bytes) rest e = (byte, white_by byte bytes rest (is_white byte) refl e)

pub only_header_is_found : OnlyHeaderIsFound
unfolding behind_header
only_header_is_found bytes rest e =
    option_and_then_some behind_white
    (option_and_then (behind_word 255) (option_and_then (behind_word 600) (option_and_then (behind_word 600) (behind_kind bytes)))) rest e (λ last found_last ends.
    option_and_then_some (behind_word 255) (option_and_then (behind_word 600) (option_and_then (behind_word 600) (behind_kind bytes))) last found_last (λ third found_third highest_e.
    option_and_then_some (behind_word 600) (option_and_then (behind_word 600) (behind_kind bytes)) third found_third (λ second found_second height_e.
    option_and_then_some (behind_word 600) (behind_kind bytes) second found_second (λ first kind_e width_e.
    let width = word_found 600 first second width_e in
    let height = word_found 600 second third height_e in
    let highest = word_found 255 third last highest_e in
    let white = white_found last rest ends in
    record {
      width = width.0;
      height = height.0;
      highest = highest.0;
      white = white.0;
      is_width = width.1.0;
      is_height = height.1.0;
      is_highest = highest.1.0;
      is_end = white.1.0;
      whole = kind_found bytes first kind_e ∙ ap (λ l. 80 ∷ 54 ∷ l) (width.1.1 ∙ ap (λ l. width.0 ++ l) (height.1.1 ∙ ap (λ l. height.0 ++ l) (highest.1.1 ∙ ap (λ l. highest.0 ++ l) white.1.1)));
    }))))
