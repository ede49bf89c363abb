-- DNA as text.
use Rattle.std.specs.Prelude.{ℕ, List, [], ◌∷◌, ◌++◌, map}
use Rattle.fuun_base.specs.declared.letters.Base.{Base}
use Rattle.fuun_base.specs.Letter.{letter_of}

-- DNA as its letters and a line feed
abbrev pub letters : List Base → List ℕ
letters dna = map letter_of dna ++ 10 ∷ []
