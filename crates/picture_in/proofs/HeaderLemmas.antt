-- How the parts of a header are read, byte by byte.
use Rattle.std.proofs.Common.{◌≡◌, ℕ, ◌+◌, ◌-◌, ◌*◌, ◌<◌, true, false, List, ◌∷◌, Some, length, drop, get_or, min, refl, sym, ap, ◌∙◌, arith, add-one, drop-cons}
use Rattle.std.specs.Prelude.{◌==◌}
use Rattle.fuun_base.specs.Decimals.{is_digit}
use Rattle.picture_in.specs.Header.{behind_blanks, behind_digits, is_white}

-- the byte at a place stands before what is behind it
pub at_front : (bytes : List ℕ) (place : ℕ) → place < length bytes → drop place bytes ≡ get_or bytes place 0 ∷ drop (place + 1) bytes
at_front bytes place within = drop-cons bytes place 0 within ∙ ap (λ n. get_or bytes place 0 ∷ drop n bytes) (sym (add-one place))

-- a digit more
pub digit_more : (value byte : ℕ) (rest : List ℕ) → is_digit byte ≡ true → behind_digits value (byte ∷ rest) ≡ behind_digits (10 * value + (byte - 48)) rest
digit_more value byte rest is = rw is refl

pub digits_end : (value byte : ℕ) (rest : List ℕ) → is_digit byte ≡ false → behind_digits value (byte ∷ rest) ≡ (value, byte ∷ rest)
digits_end value byte rest is = rw is refl

-- digits were read up to a place, and they have this value, held
pub record AreRead (bytes : List ℕ) (place held large : ℕ) : Type 0 where
  pub value : ℕ
  pub is_held : held ≡ min large value
  pub goes_on : behind_digits 0 bytes ≡ behind_digits value (drop place bytes)

pub read_more : (bytes : List ℕ) (place held large more : ℕ) → place < length bytes → is_digit (get_or bytes place 0) ≡ true → more ≡ min large (10 * held + (get_or bytes place 0 - 48)) → AreRead bytes place held large → AreRead bytes (place + 1) more large
read_more bytes place held large more within digit is read =
    let byte = get_or bytes place 0 in
    record {
      value = 10 * read.value + (byte - 48);
      is_held = let before = read.is_held in omega arith;
      goes_on = read.goes_on ∙ ap (behind_digits read.value) (at_front bytes place within) ∙ digit_more read.value byte (drop (place + 1) bytes) digit;
    }

pub comment_more : (byte : ℕ) (rest : List ℕ) → (byte == 10) ≡ false → behind_blanks true (byte ∷ rest) ≡ behind_blanks true rest
comment_more byte rest is = rw is refl

pub comment_ends : (byte : ℕ) (rest : List ℕ) → (byte == 10) ≡ true → behind_blanks true (byte ∷ rest) ≡ behind_blanks false rest
comment_ends byte rest is = rw is refl

pub comment_begins : (byte : ℕ) (rest : List ℕ) → is_white byte ≡ false → (byte == 35) ≡ true → behind_blanks false (byte ∷ rest) ≡ behind_blanks true rest
comment_begins byte rest black is = rw black (rw is refl)

pub white_more : (byte : ℕ) (rest : List ℕ) → is_white byte ≡ true → behind_blanks false (byte ∷ rest) ≡ behind_blanks false rest
white_more byte rest is = rw is refl

pub blanks_end : (byte : ℕ) (rest : List ℕ) → is_white byte ≡ false → (byte == 35) ≡ false → behind_blanks false (byte ∷ rest) ≡ Some (byte ∷ rest)
blanks_end byte rest black is = rw black (rw is refl)
