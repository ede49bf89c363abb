-- Numbers in DNA (the task's `nat`).
use Rattle.std.specs.Prelude.{ℕ, ◌+◌, ◌^◌, Bool, true, false, Option, List, [], ◌∷◌, take, position}
use Rattle.std.specs.Option.{option_map}
use Rattle.fuun_base.specs.declared.letters.Base.{Base}
use Rattle.fuun_base.specs.declared.letters.Base.TheVariants.{I, C, F, P}

-- a numeral ends with its first P
abbrev pub is_p : Base → Bool
is_p I = false
is_p C = false
is_p F = false
is_p P = true

-- what a base counts at a place of a numeral: C counts a power of two, the others nothing
abbrev pub weight_at : ℕ → Base → ℕ
weight_at place I = 0
weight_at place C = 2 ^ place
weight_at place F = 0
weight_at place P = 0

-- the sum over the places of a list whose first base is at a place
abbrev pub value_from : ℕ → List Base → ℕ
value_from place [] = 0
value_from place (b ∷ d) = weight_at place b + value_from (place + 1) d

-- the number that begins d and how many bases it takes: none where d has no P
abbrev pub numeral : List Base → Option (ℕ × ℕ)
numeral d = option_map (λ end. (value_from 0 (take end d), end + 1)) (position is_p d)
