-- Constants in DNA (the task's `consts`): the longest list whose quote begins the DNA.
use Rattle.std.specs.Prelude.{◌≡◌, ◌≤◌, List, [], ◌∷◌, ◌++◌, length}
use Rattle.fuun_base.specs.declared.letters.Base.{Base}
use Rattle.fuun_base.specs.declared.letters.Base.TheVariants.{I, C, F, P}
use Rattle.fuun_base.specs.Quote.{quote}

-- the quote of s begins d
abbrev pub QuoteBegins : List Base → List Base → Type 0
QuoteBegins s d = (rest : List Base) × (d ≡ quote s ++ rest)

-- s is the longest list whose quote begins d
pub record IsConstants (s d : List Base) : Type 0 where
  pub begins : QuoteBegins s d
  pub longest : (t : List Base) → QuoteBegins t d → length t ≤ length s

-- the constants that begin d
abbrev pub consts : List Base → List Base
consts [] = []
consts (C ∷ d) = I ∷ consts d
consts (F ∷ d) = C ∷ consts d
consts (P ∷ d) = F ∷ consts d
consts (I ∷ []) = []
consts (I ∷ C ∷ d) = P ∷ consts d
consts (I ∷ I ∷ d) = []
consts (I ∷ F ∷ d) = []
consts (I ∷ P ∷ d) = []
