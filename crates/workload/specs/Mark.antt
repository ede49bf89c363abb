-- The mark of a list of bases.
use Rattle.std.specs.Prelude.{ℕ, ◌+◌, ◌*◌, ◌%◌, ◌^◌, List, [], ◌∷◌}
use Rattle.fuun_base.specs.declared.letters.Base.{Base}
use Rattle.fuun_base.specs.declared.letters.Base.TheVariants.{I, C, F, P}

abbrev pub code_of : Base → ℕ
code_of I = 1
code_of C = 2
code_of F = 3
code_of P = 4

-- a mark with one base more
unfoldable pub marked : ℕ → Base → ℕ
marked mark b = (31 * mark + code_of b) % 2 ^ 32

-- a mark that goes on over a list
abbrev pub mark_behind : ℕ → List Base → ℕ
mark_behind mark [] = mark
mark_behind mark (b ∷ d) = mark_behind (marked mark b) d

-- the mark of a list starts as 0
abbrev pub mark_of : List Base → ℕ
mark_of d = mark_behind 0 d
