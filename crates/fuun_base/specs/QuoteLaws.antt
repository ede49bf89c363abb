-- What holds of quoting and of numbers written as bases.
use Rattle.std.specs.Prelude.{◌≡◌, ℕ, ◌+◌, ◌*◌, ◌/◌, ◌%◌, ◌<◌, ◌≤◌, ◌==◌, List, [], ◌∷◌, ◌++◌, length}
use Rattle.fuun_base.specs.declared.letters.Base.{Base}
use Rattle.fuun_base.specs.declared.letters.Base.TheVariants.{I, C, F, P}
use Rattle.fuun_base.specs.Quote.{protect, digit_base, asnat, bits}

-- zero has no digits
abbrev pub NumberZero : Type 0
NumberZero = asnat 0 ≡ P ∷ []

-- any other number has its lowest digit before those of its half
abbrev pub NumberDigit : Type 0
NumberDigit = (n : ℕ) → 0 < n → asnat n ≡ digit_base (n % 2 == 0) ∷ asnat (n / 2)

-- a number takes its binary digits and one base more
abbrev pub NumberLength : Type 0
NumberLength = (n : ℕ) → length (asnat n) ≡ bits n + 1

-- a greater number has no fewer binary digits
abbrev pub BitsRise : Type 0
BitsRise = (m n : ℕ) → m ≤ n → bits m ≤ bits n

-- numbers and their bases
abbrev pub NumbersWorked : Type 0
NumbersWorked =
    (asnat 1 ≡ C ∷ P ∷ []) × (asnat 2 ≡ I ∷ C ∷ P ∷ []) × (asnat 8 ≡ I ∷ I ∷ I ∷ C ∷ P ∷ [])
    × (asnat 13 ≡ C ∷ I ∷ C ∷ C ∷ P ∷ [])

-- nothing quoted is nothing
abbrev pub ProtectOfNil : Type 0
ProtectOfNil = (level : ℕ) → protect level [] ≡ []

-- quoting goes through joined lists
abbrev pub ProtectOfJoined : Type 0
ProtectOfJoined = (level : ℕ) (a b : List Base) → protect level (a ++ b) ≡ protect level a ++ protect level b

-- levels add up
abbrev pub ProtectTwice : Type 0
ProtectTwice = (a b : ℕ) (d : List Base) → protect a (protect b d) ≡ protect (a + b) d

-- four levels make a list at least twice as long
abbrev pub ProtectFour : Type 0
ProtectFour = (d : List Base) → 2 * length d ≤ length (protect 4 d)

-- seven levels of the base P, and of the others one
abbrev pub ProtectWorked : Type 0
ProtectWorked =
    (protect 1 (I ∷ C ∷ F ∷ P ∷ []) ≡ C ∷ F ∷ P ∷ I ∷ C ∷ [])
    × (protect 4 (P ∷ []) ≡ P ∷ I ∷ C ∷ [])
    × (protect 7 (P ∷ []) ≡ F ∷ P ∷ P ∷ I ∷ C ∷ [])
