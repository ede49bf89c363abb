-- Numbers drawn one after another from a state, which a seed starts.
use Rattle.std.specs.Prelude.{ℕ, zero, suc, ◌+◌, ◌*◌, ◌/◌, ◌%◌, ◌^◌, ◌==◌, if◌then◌else◌, List, [], ◌∷◌}
use Rattle.fuun_base.specs.declared.letters.Base.{Base}
use Rattle.fuun_base.specs.declared.letters.Base.TheVariants.{I, C, F, P}

-- the state after a turn
unfoldable pub turned : ℕ → ℕ
turned x = (1103515245 * x + 12345) % 2 ^ 31

-- the number of 15 bits that a state shows
unfoldable pub shown : ℕ → ℕ
shown x = x / 2 ^ 16

-- the number below n that two turns give
unfoldable pub drawn : ℕ → ℕ → ℕ
drawn x n = (shown (turned x) * 32768 + shown (turned (turned x))) % n

-- the state after so many draws
abbrev pub behind : ℕ → ℕ → ℕ
behind zero x = x
behind (suc draws) x = behind draws (turned (turned x))

-- the base of a number below 4
abbrev pub base_of : ℕ → Base
base_of n = if n == 0 then I else if n == 1 then C else if n == 2 then F else P

-- so many bases, a draw each
abbrev pub bases_drawn : ℕ → ℕ → List Base
bases_drawn zero x = []
bases_drawn (suc count) x = base_of (drawn x 4) ∷ bases_drawn count (behind 1 x)
