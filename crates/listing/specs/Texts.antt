-- The texts of items and of numbers, as bytes of ASCII.
use Rattle.std.specs.Prelude.{ℕ, ◌^◌, if◌then◌else◌, List, [], ◌∷◌, ◌++◌, codes, decimal, flat_map, map, nat_lt}
use Rattle.fuun_base.specs.declared.letters.Base.{Base}
use Rattle.fuun_base.specs.Letter.{letter_of}
use Rattle.dna_items.specs.declared.items.PatItem.{PatItem}
use Rattle.dna_items.specs.declared.items.PatItem.TheVariants.{Base as Literal, Skip, Search, GroupStart, GroupStop}
use Rattle.dna_items.specs.declared.items.TplItem.{TplItem}
use Rattle.dna_items.specs.declared.items.TplItem.TheVariants.{Base as TplLiteral, Group, Len}

-- a number in decimal, and one of 2^63 or more as the word 'big'
unfoldable pub number_text : ℕ → List ℕ
number_text n = if nat_lt n (2 ^ 63) then decimal n else codes "big"

-- the letters of bases
abbrev pub letters_text : List Base → List ℕ
letters_text bases = map letter_of bases

-- an item of a pattern
abbrev pub pattern_item_text : PatItem → List ℕ
pattern_item_text (Literal b) = letter_of b ∷ []
pattern_item_text (Skip n) = codes "!" ++ number_text n
pattern_item_text (Search s) = codes "<" ++ (letters_text s ++ codes ">")
pattern_item_text GroupStart = codes "("
pattern_item_text GroupStop = codes ")"

-- an item of a template: a group stands before its level
abbrev pub template_item_text : TplItem → List ℕ
template_item_text (TplLiteral b) = letter_of b ∷ []
template_item_text (Group n level) = codes "{" ++ (number_text n ++ (codes "," ++ (number_text level ++ codes "}")))
template_item_text (Len n) = codes "|" ++ (number_text n ++ codes "|")

-- the items of a pattern, one after the other
abbrev pub pattern_text : List PatItem → List ℕ
pattern_text items = flat_map pattern_item_text items

-- the items of a template, one after the other
abbrev pub template_text : List TplItem → List ℕ
template_text items = flat_map template_item_text items

-- a pattern and its template
abbrev pub pair_text : List PatItem → List TplItem → List ℕ
pair_text pattern template = pattern_text pattern ++ (codes " -> " ++ template_text template)
