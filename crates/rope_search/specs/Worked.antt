-- A worked row.
use Rattle.std.specs.Prelude.{ℕ, List, [], ◌∷◌, ◌++◌, replicate}
use Rattle.fuun_base.specs.declared.letters.Base.{Base}
use Rattle.fuun_base.specs.declared.letters.Base.TheVariants.{I, C, F}

-- I so many times, C, F, and I so many times
unfoldable pub row_of : ℕ → ℕ → List Base
row_of before after = replicate before I ++ (C ∷ F ∷ replicate after I)

-- a needle that stands in it once, over C and F
abbrev pub needle_icfi : List Base
needle_icfi = I ∷ C ∷ F ∷ I ∷ []
