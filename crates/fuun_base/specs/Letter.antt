use Rattle.std.specs.Prelude.{ℕ, ◌==◌, ◌||◌, if◌then◌else◌, Bool, Option, Some, None, is_some}
use Rattle.fuun_base.specs.declared.letters.Base.{Base}
use Rattle.fuun_base.specs.declared.letters.Base.TheVariants.{I, C, F, P}

-- the letter of a base, as an ASCII byte
abbrev pub letter_of : Base → ℕ
letter_of I = 73
letter_of C = 67
letter_of F = 70
letter_of P = 80

-- the base that a byte is the letter of
abbrev pub base_of : ℕ → Option Base
base_of byte =
    if byte == 73 then Some I
    else if byte == 67 then Some C
    else if byte == 70 then Some F
    else if byte == 80 then Some P
    else None

-- a byte is the letter of a base
abbrev pub is_letter : ℕ → Bool
is_letter byte = is_some (base_of byte)

-- space, tab and carriage return, which DNA and RNA files may hold anywhere
abbrev pub is_blank : ℕ → Bool
is_blank byte = byte == 32 || (byte == 9 || byte == 13)
