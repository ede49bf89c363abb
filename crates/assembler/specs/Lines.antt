-- A line as it is taken.
use Rattle.std.specs.Prelude.{◌≡◌, ℕ, List, ◌++◌}
use Rattle.fuun_base.specs.declared.letters.Base.{Base}
use Rattle.dna_items.specs.declared.items.PatItem.{PatItem}
use Rattle.dna_items.specs.declared.items.TplItem.{TplItem}
use Rattle.dna_reader.specs.Codes.{pair_code, IsReadable}
use Rattle.assembler.specs.declared.assembling.AsmError.{AsmError}
use Rattle.assembler.specs.declared.assembling.AsmError.TheVariants.{BadText, Unreadable, NoMemory}
use Rattle.assembler.specs.Pairs.{IsPair, IsNoPair, IsUnreadable}

-- a line is the text of a pair that can be read, and its code was appended
pub record IsTaken (line : List ℕ) (old new : List Base) : Type 0 where
  pub pattern : List PatItem
  pub template : List TplItem
  pub pair : IsPair line pattern template
  pub readable : IsReadable pattern
  pub added : new ≡ old ++ pair_code pattern template

-- a line of this number is refused for what the error tells
abbrev pub IsRefusal : List ℕ → ℕ → AsmError → Type 0
IsRefusal line number (BadText at) = (at ≡ number) × IsNoPair line
IsRefusal line number (Unreadable at) = (at ≡ number) × IsUnreadable line
IsRefusal line number NoMemory = Unit {0}
