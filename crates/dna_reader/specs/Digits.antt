-- Digits of a numeral, as far as they were read.
use Rattle.std.specs.Prelude.{◌≡◌, ℕ, ◌^◌, List, length}
use Rattle.fuun_base.specs.declared.letters.Base.{Base}
use Rattle.fuun_base.specs.declared.letters.Base.TheVariants.{I, C, F, P}
use Rattle.dna_items.specs.Held.{held}
use Rattle.dna_reader.specs.Numeral.{value_from}
use Rattle.dna_reader.specs.declared.numerals.Digits.{Digits}

-- what a digit adds, where a C adds so much
abbrev pub counted : Base → ℕ → ℕ
counted I weight = 0
counted C weight = weight
counted F weight = 0
counted P weight = 0

-- the value of these digits and the weight of the next one, both held
pub record HaveRead (digits : Digits) (read : List Base) : Type 0 where
  pub value : digits.value ≡ held (value_from 0 read)
  pub weight : digits.weight ≡ held (2 ^ length read)
