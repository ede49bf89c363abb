-- What the front of a DNA begins with.
use Rattle.std.specs.Prelude.{ℕ, Option, Some, None, List, [], ◌∷◌}
use Rattle.fuun_base.specs.declared.letters.Base.{Base}
use Rattle.fuun_base.specs.declared.letters.Base.TheVariants.{I, C, F, P}
use Rattle.dna_reader.specs.declared.heads.Head.{Head}
use Rattle.dna_reader.specs.declared.heads.Head.TheVariants.{Literal, Ip, If, Iip, Iic, Iii, Short}

-- the base whose quote begins d, and the length of that quote
abbrev pub unquoted : List Base → Option (Base × ℕ)
unquoted [] = None
unquoted (C ∷ d) = Some (I, 1)
unquoted (F ∷ d) = Some (C, 1)
unquoted (P ∷ d) = Some (F, 1)
unquoted (I ∷ []) = None
unquoted (I ∷ C ∷ d) = Some (P, 2)
unquoted (I ∷ I ∷ d) = None
unquoted (I ∷ F ∷ d) = None
unquoted (I ∷ P ∷ d) = None

-- the letters of the rows of both tables that begin d
abbrev pub head_of : List Base → Head
head_of [] = Short
head_of (C ∷ d) = Literal I 1
head_of (F ∷ d) = Literal C 1
head_of (P ∷ d) = Literal F 1
head_of (I ∷ []) = Short
head_of (I ∷ C ∷ d) = Literal P 2
head_of (I ∷ P ∷ d) = Ip
head_of (I ∷ F ∷ d) = If
head_of (I ∷ I ∷ []) = Short
head_of (I ∷ I ∷ P ∷ d) = Iip
head_of (I ∷ I ∷ C ∷ d) = Iic
head_of (I ∷ I ∷ F ∷ d) = Iic
head_of (I ∷ I ∷ I ∷ d) = Iii

-- how many letters those are
abbrev pub letters_of : Head → ℕ
letters_of (Literal b n) = n
letters_of Ip = 2
letters_of If = 2
letters_of Iip = 3
letters_of Iic = 3
letters_of Iii = 3
letters_of Short = 0
