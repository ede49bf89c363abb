-- Kinds of bytes.
use Rattle.std.specs.Prelude.{ℕ, ◌==◌, ◌&&◌, ◌||◌, Bool, List, nat_le}
use Rattle.std.specs.List.{prefix_len}
use Rattle.fuun_base.specs.Decimals.{is_digit}
use Rattle.fuun_base.specs.Letter.{is_blank}
use Rattle.source_tokens.specs.declared.bytes.Kind.{Kind}
use Rattle.source_tokens.specs.declared.bytes.Kind.TheVariants.{Blank, Digit, NamePart}

abbrev pub is_lower : ℕ → Bool
is_lower byte = nat_le 97 byte && nat_le byte 122

-- lower-case letters, digits and `_`
abbrev pub is_name_part : ℕ → Bool
is_name_part byte = is_lower byte || (is_digit byte || byte == 95)

-- a byte is of a kind
abbrev pub is_of : Kind → ℕ → Bool
is_of Blank byte = is_blank byte
is_of Digit byte = is_digit byte
is_of NamePart byte = is_name_part byte

-- how many bytes of a kind stand at the front
abbrev pub stretch : Kind → List ℕ → ℕ
stretch kind bytes = prefix_len (is_of kind) bytes
