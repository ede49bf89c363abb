-- Quoting, and numbers written as bases (the task's `quote`, `protect` and `asnat`).
use Rattle.std.specs.Prelude.{ℕ, zero, suc, ◌+◌, ◌/◌, ◌%◌, ◌==◌, true, false, Bool, List, [], ◌∷◌, ◌++◌}
use Rattle.fuun_base.specs.declared.letters.Base.{Base}
use Rattle.fuun_base.specs.declared.letters.Base.TheVariants.{I, C, F, P}

-- the quote of one base
abbrev pub quote_of : Base → List Base
quote_of I = C ∷ []
quote_of C = F ∷ []
quote_of F = P ∷ []
quote_of P = I ∷ C ∷ []

-- the quote of a list: the quotes of its bases, joined
abbrev pub quote : List Base → List Base
quote [] = []
quote (b ∷ d) = quote_of b ++ quote d

-- a list quoted as often as the level says
unfoldable pub protect : ℕ → List Base → List Base
protect zero d = d
protect (suc level) d = protect level (quote d)

-- the base that stands for a number's lowest binary digit
abbrev pub digit_base : Bool → Base
digit_base true = I
digit_base false = C

-- the binary digits of n from the lowest on, at most `most` of them, and then P
unfoldable pub asnat_from : ℕ → ℕ → List Base
asnat_from zero n = P ∷ []
asnat_from (suc most) n =
    elim (n == 0) [
      | true ↦ P ∷ []
      | false ↦ digit_base (n % 2 == 0) ∷ asnat_from most (n / 2)
    ]

-- a number as bases: its binary digits from the lowest on (I for 0, C for 1), and then P
unfoldable pub asnat : ℕ → List Base
asnat n = asnat_from n n

-- how many binary digits n has, of which `most` are counted at most
unfoldable pub bits_from : ℕ → ℕ → ℕ
bits_from zero n = 0
bits_from (suc most) n =
    elim (n == 0) [
      | true ↦ 0
      | false ↦ 1 + bits_from most (n / 2)
    ]

-- how many binary digits a number has; 0 has none
unfoldable pub bits : ℕ → ℕ
bits n = bits_from n n
