-- Numbers in a script.
use Rattle.std.specs.Prelude.{ℕ, ◌^◌, Option, List}
use Rattle.fuun_base.specs.Decimals.{number_up_to}

-- the number that a text writes in decimal, where it is at most 2^40
abbrev pub number : List ℕ → Option ℕ
number text = number_up_to (2 ^ 40) text
