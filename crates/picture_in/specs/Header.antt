-- The header of a raw pixmap in the form of Netpbm's PPM, as what stands behind each part of it.
use Rattle.std.specs.Prelude.{ℕ, ◌+◌, ◌-◌, ◌*◌, ◌==◌, ◌&&◌, ◌||◌, nat_le, if◌then◌else◌, Bool, true, false, Option, Some, None, List, [], ◌∷◌}
use Rattle.std.specs.Option.{option_and_then}
use Rattle.fuun_base.specs.Decimals.{is_digit}

-- tab, line feed, vertical tab, form feed, carriage return and space
abbrev pub is_white : ℕ → Bool
is_white byte = (nat_le 9 byte && nat_le byte 13) || byte == 32

-- what stands behind white bytes and comments, from within a comment or not: a comment is # up to and with the next line feed
abbrev pub behind_blanks : Bool → List ℕ → Option (List ℕ)
behind_blanks true [] = None
behind_blanks true (byte ∷ rest) = if byte == 10 then behind_blanks false rest else behind_blanks true rest
behind_blanks false [] = Some []
behind_blanks false (byte ∷ rest) =
    if is_white byte then behind_blanks false rest
    else if byte == 35 then behind_blanks true rest
    else Some (byte ∷ rest)

-- what stands behind a gap: one or more white bytes and comments
abbrev pub behind_gap : List ℕ → Option (List ℕ)
behind_gap [] = None
behind_gap (byte ∷ rest) = if is_white byte || byte == 35 then behind_blanks false (byte ∷ rest) else None

-- the value of the digits in front, behind those of a value, and what stands behind them
abbrev pub behind_digits : ℕ → List ℕ → ℕ × List ℕ
behind_digits value [] = (value, [])
behind_digits value (byte ∷ rest) =
    if is_digit byte then behind_digits (10 * value + (byte - 48)) rest
    else (value, byte ∷ rest)

-- what stands behind one or more digits with this value
abbrev pub behind_number : ℕ → List ℕ → Option (List ℕ)
behind_number value [] = None
behind_number value (byte ∷ rest) =
    if is_digit byte && (behind_digits 0 (byte ∷ rest)).0 == value then Some (behind_digits 0 (byte ∷ rest)).1
    else None

-- what stands behind a gap and a number
unfoldable pub behind_word : ℕ → List ℕ → Option (List ℕ)
behind_word value bytes = option_and_then (behind_number value) (behind_gap bytes)

-- what stands behind P6
abbrev pub behind_kind : List ℕ → Option (List ℕ)
behind_kind [] = None
behind_kind (first ∷ []) = None
behind_kind (first ∷ second ∷ rest) = if first == 80 && second == 54 then Some rest else None

-- what stands behind one white byte
abbrev pub behind_white : List ℕ → Option (List ℕ)
behind_white [] = None
behind_white (byte ∷ rest) = if is_white byte then Some rest else None

-- what stands behind the header of 600 by 600 pixels with channels up to 255
unfoldable pub behind_header : List ℕ → Option (List ℕ)
behind_header bytes =
    option_and_then behind_white
    (option_and_then (behind_word 255) (option_and_then (behind_word 600) (option_and_then (behind_word 600) (behind_kind bytes))))
