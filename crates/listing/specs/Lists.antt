-- The lines of `list`: pairs of a pattern and a template are read one behind the other, and none is matched.
use Rattle.std.specs.Prelude.{◌≡◌, ◌⊎◌, ℕ, zero, suc, ◌-◌, List, [], ◌++◌, Option, Result, codes, length}
use Rattle.fuun_base.specs.declared.letters.Base.{Base}
use Rattle.fuun_io.specs.Written.{Puts}
use Rattle.dna_items.specs.declared.items.PatItem.{PatItem}
use Rattle.dna_items.specs.declared.items.TplItem.{TplItem}
use Rattle.dna_reader.specs.Pairs.{PairStands, PairRunsOut}
use Rattle.listing.specs.Texts.{number_text, pair_text}

-- a pair stands at the front of d and leaves the rest, whatever its RNA
abbrev pub BeginsWithPair : List Base → List PatItem → List TplItem → List Base → Type 0
BeginsWithPair d pattern template rest = (rna : List (List Base)) × PairStands d pattern template rna rest

-- the pair at the front of d runs out, whatever its RNA
abbrev pub BeginsWithNone : List Base → Type 0
BeginsWithNone d = (rna : List (List Base)) × PairRunsOut d rna

-- the line of a pair that starts at a place
abbrev pub pair_line : ℕ → List PatItem → List TplItem → List ℕ
pair_line place pattern template = number_text place ++ (codes " " ++ (pair_text pattern template ++ codes "\n"))

-- the line where no pair starts
abbrev pub last_line : ℕ → List ℕ
last_line place = number_text place ++ codes " finish\n"

-- the lines of up to so many pairs of what is left of a DNA of so many bases
abbrev pub ListsFrom : ℕ → ℕ → List Base → List ℕ → Type 0
ListsFrom len zero left text = text ≡ []
ListsFrom len (suc count) left text =
    (BeginsWithNone left × (text ≡ last_line (len - length left)))
    ⊎ ((pattern : List PatItem) × (template : List TplItem) × (rest : List Base) × (more : List ℕ)
    × BeginsWithPair left pattern template rest × ListsFrom len count rest more
    × (text ≡ pair_line (len - length left) pattern template ++ more))

-- the lines of up to so many pairs of a DNA
abbrev pub IsListing : List Base → ℕ → List ℕ → Type 0
IsListing d count text = ListsFrom (length d) count d text

-- the lines were appended, and after an error a front of them
pub record PutsListing {T E : Type 0} (d : List Base) (count : ℕ) (result : Result T E) (old new : Option (List ℕ)) : Type 0 where
  pub text : List ℕ
  pub is : IsListing d count text
  pub puts : Puts result old new text
