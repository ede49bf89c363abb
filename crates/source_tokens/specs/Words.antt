-- The words of a line, as it is read.
use Rattle.std.specs.Prelude.{ℕ, suc, zero, ◌+◌, ◌-◌, ◌*◌, ◌^◌, ◌==◌, ◌&&◌, if◌then◌else◌, Bool, false, List, [], ◌∷◌, ◌++◌, fold, min, take}
use Rattle.std.specs.Option.{option_map_or}
use Rattle.fuun_base.specs.Decimals.{is_digit}
use Rattle.fuun_base.specs.Letter.{base_of, is_blank}
use Rattle.source_tokens.specs.declared.bytes.Kind.TheVariants.{Digit, NamePart}
use Rattle.source_tokens.specs.declared.words.Word.{Word}
use Rattle.source_tokens.specs.declared.words.Word.TheVariants.{Arrow, Equals, Colon, Semicolon, Comma, Plus, Star, Bang, Bar, Open, Close, OpenBracket, CloseBracket, OpenBrace, CloseBrace, Less, Greater, Base, Number, Name, Other}
use Rattle.source_tokens.specs.declared.words.Token.{Token}
use Rattle.source_tokens.specs.Bytes.{is_lower, stretch}
use Rattle.source_tokens.specs.Names.{name_id, with_name}

-- a number with a digit behind it
abbrev pub with_digit : ℕ → ℕ → ℕ
with_digit n byte = n * 10 + (byte - 48)

-- the number that digits stand for in decimal
unfoldable pub number_of : List ℕ → ℕ
number_of digits = fold with_digit 0 digits

abbrev pub base_or_other : ℕ → Word
base_or_other byte = option_map_or (λ base. Base base) (base_of byte) Other

-- the byte that is a word by itself
abbrev pub sign_of : ℕ → Word
sign_of byte =
    if byte == 61 then Equals
    else if byte == 58 then Colon
    else if byte == 59 then Semicolon
    else if byte == 44 then Comma
    else if byte == 43 then Plus
    else if byte == 42 then Star
    else if byte == 33 then Bang
    else if byte == 124 then Bar
    else if byte == 40 then Open
    else if byte == 41 then Close
    else if byte == 91 then OpenBracket
    else if byte == 93 then CloseBracket
    else if byte == 123 then OpenBrace
    else if byte == 125 then CloseBrace
    else if byte == 60 then Less
    else if byte == 62 then Greater
    else base_or_other byte

-- an arrow stands at the front
abbrev pub is_arrow : ℕ → List ℕ → Bool
is_arrow byte [] = false
is_arrow byte (next ∷ rest) = byte == 45 && next == 62

-- the word at the front: how many bytes it has behind its first, and the names that were met behind it
pub record Reading : Type 0 where
  pub word : Word
  pub more : ℕ
  pub met : List (List ℕ)

abbrev pub reading : Word → ℕ → List (List ℕ) → Reading
reading word more met = record { word = word; more = more; met = met }

abbrev pub name_at : List (List ℕ) → List ℕ → ℕ → Reading
name_at met name more = reading (Name (name_id met name)) more (with_name met name)

unfoldable pub word_at : List (List ℕ) → List ℕ → Reading
word_at met [] = reading Other 0 met
word_at met (byte ∷ rest) =
    if is_lower byte then name_at met (byte ∷ take (stretch NamePart rest) rest) (stretch NamePart rest)
    else if is_digit byte then reading (Number (min (number_of (byte ∷ take (stretch Digit rest) rest)) (2 ^ 63))) (stretch Digit rest) met
    else if is_arrow byte rest then reading Arrow 1 met
    else reading (sign_of byte) 0 met

-- the tokens of a line so far, the place behind the last of them, and the names that were met
pub record Scan : Type 0 where
  pub tokens : List Token
  pub end : ℕ
  pub met : List (List ℕ)

abbrev pub token_at : Word → ℕ → Token
token_at word at = record { word = word; at = at }

-- with one more token, at its place
abbrev pub with_word : Scan → Reading → ℕ → Scan
with_word found read at = record { tokens = found.tokens ++ token_at read.word at ∷ []; end = at + (read.more + 1); met = read.met }

-- the tokens of a line that stands behind so many bytes, of whose front so many bytes are of a token that was read
unfoldable pub scan : ℕ → Scan → ℕ → List ℕ → Scan
scan more found at [] = found
scan (suc more) found at (byte ∷ bytes) = scan more found (at + 1) bytes
scan zero found at (byte ∷ bytes) =
    if is_blank byte then scan 0 found (at + 1) bytes
    else scan (word_at found.met (byte ∷ bytes)).more (with_word found (word_at found.met (byte ∷ bytes)) at) (at + 1) bytes
