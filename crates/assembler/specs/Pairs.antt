-- Lines that are the text of a pattern and a template, by the texts of a listing.
use Rattle.std.specs.Prelude.{◌≡◌, ◌⊎◌, ℕ, ◌^◌, ◌<◌, true, List}
use Rattle.std.specs.List.{AllByRecursion}
use Rattle.dna_items.specs.Balance.{IsBalanced}
use Rattle.dna_items.specs.declared.items.PatItem.{PatItem}
use Rattle.dna_items.specs.declared.items.PatItem.TheVariants.{Base as Literal, Skip, Search, GroupStart, GroupStop}
use Rattle.dna_items.specs.declared.items.TplItem.{TplItem}
use Rattle.dna_items.specs.declared.items.TplItem.TheVariants.{Base as TplLiteral, Group, Len}
use Rattle.dna_reader.specs.Codes.{has_search_before_base}
use Rattle.listing.specs.Texts.{pair_text}

-- a number that a listing writes in decimal
abbrev pub IsSmall : ℕ → Type 0
IsSmall n = n < 2 ^ 63

-- the numbers of an item are small
abbrev pub HasSmallSkip : PatItem → Type 0
HasSmallSkip (Literal b) = Unit {0}
HasSmallSkip (Skip n) = IsSmall n
HasSmallSkip (Search s) = Unit {0}
HasSmallSkip GroupStart = Unit {0}
HasSmallSkip GroupStop = Unit {0}

abbrev pub HasSmallNumbers : TplItem → Type 0
HasSmallNumbers (TplLiteral b) = Unit {0}
HasSmallNumbers (Group n level) = IsSmall n × IsSmall level
HasSmallNumbers (Len n) = IsSmall n

-- a line is the text of a pair whose numbers are small
pub record IsPair (line : List ℕ) (pattern : List PatItem) (template : List TplItem) : Type 0 where
  pub text : line ≡ pair_text pattern template
  pub small_pattern : AllByRecursion HasSmallSkip pattern
  pub small_template : AllByRecursion HasSmallNumbers template

-- a line is the text of no such pair
abbrev pub IsNoPair : List ℕ → Type 0
IsNoPair line = (pattern : List PatItem) (template : List TplItem) → IsPair line pattern template → ⊥

-- a pattern that no DNA without RNA is read as: its groups are not balanced, or a search stands directly before a base
abbrev pub HasNoDna : List PatItem → Type 0
HasNoDna pattern = (IsBalanced pattern → ⊥) ⊎ (has_search_before_base pattern ≡ true)

-- a line is the text of a pair with such a pattern
abbrev pub IsUnreadable : List ℕ → Type 0
IsUnreadable line = (pattern : List PatItem) × (template : List TplItem) × IsPair line pattern template × HasNoDna pattern
