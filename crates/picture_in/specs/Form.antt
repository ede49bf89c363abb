-- The header of a raw pixmap in the words of its form: parts that stand one after another.
use Rattle.std.specs.Prelude.{◌≡◌, ℕ, ◌+◌, ◌-◌, ◌*◌, ◌<◌, ◌==◌, not, true, Some, List, [], ◌∷◌, ◌++◌, flat_map, length}
use Rattle.std.specs.List.{list_all}
use Rattle.fuun_base.specs.Decimals.{is_digit}
use Rattle.picture_in.specs.Header.{behind_header, is_white}

-- a white byte, or a comment with these bytes between its # and its line feed
pub data Blank : Type 0 where
  White : ℕ → Blank
  Comment : List ℕ → Blank

abbrev pub blank_bytes : Blank → List ℕ
blank_bytes (White byte) = byte ∷ []
blank_bytes (Comment inner) = 35 ∷ (inner ++ 10 ∷ [])

-- a white byte is white, and a comment has no line feed within
abbrev pub IsBlank : Blank → Type 0
IsBlank (White byte) = is_white byte ≡ true
IsBlank (Comment inner) = list_all (λ byte. not (byte == 10)) inner ≡ true

abbrev pub AreBlanks : List Blank → Type 0
AreBlanks [] = Unit {0}
AreBlanks (blank ∷ blanks) = IsBlank blank × AreBlanks blanks

-- a gap: one or more white bytes and comments
pub record IsGap (bytes : List ℕ) : Type 0 where
  pub blanks : List Blank
  pub some : 0 < length blanks
  pub are : AreBlanks blanks
  pub is : bytes ≡ flat_map blank_bytes blanks

-- the value of digits, behind those of a value
abbrev pub value_of : ℕ → List ℕ → ℕ
value_of value [] = value
value_of value (digit ∷ digits) = value_of (10 * value + (digit - 48)) digits

-- a number: one or more digits with this value
pub record IsNumber (value : ℕ) (bytes : List ℕ) : Type 0 where
  pub some : 0 < length bytes
  pub digits : list_all is_digit bytes ≡ true
  pub value_is : value_of 0 bytes ≡ value

-- a gap and a number
pub record IsWord (value : ℕ) (bytes : List ℕ) : Type 0 where
  pub gap : List ℕ
  pub number : List ℕ
  pub is_gap : IsGap gap
  pub is_number : IsNumber value number
  pub whole : bytes ≡ gap ++ number

-- P6, a gap and 600, a gap and 600, a gap and 255, one white byte, and the rest
pub record IsHeader (bytes rest : List ℕ) : Type 0 where
  pub width : List ℕ
  pub height : List ℕ
  pub highest : List ℕ
  pub white : ℕ
  pub is_width : IsWord 600 width
  pub is_height : IsWord 600 height
  pub is_highest : IsWord 255 highest
  pub is_end : is_white white ≡ true
  pub whole : bytes ≡ 80 ∷ 54 ∷ (width ++ (height ++ (highest ++ white ∷ rest)))

-- what stands behind a header is found
abbrev pub HeaderIsFound : Type 0
HeaderIsFound = (bytes rest : List ℕ) → IsHeader bytes rest → behind_header bytes ≡ Some rest

-- and nothing is found where there is none
abbrev pub OnlyHeaderIsFound : Type 0
OnlyHeaderIsFound = (bytes rest : List ℕ) → behind_header bytes ≡ Some rest → IsHeader bytes rest
