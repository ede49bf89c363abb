-- Items written as DNA.
use Rattle.std.specs.Prelude.{◌≡◌, Bool, true, false, ◌&&◌, ◌||◌, List, [], ◌∷◌, ◌++◌, flat_map}
use Rattle.fuun_base.specs.declared.letters.Base.{Base}
use Rattle.fuun_base.specs.declared.letters.Base.TheVariants.{I, C, F, P}
use Rattle.fuun_base.specs.Quote.{quote_of, quote, asnat}
use Rattle.dna_items.specs.declared.items.PatItem.{PatItem}
use Rattle.dna_items.specs.declared.items.PatItem.TheVariants.{Base as Literal, Skip, Search, GroupStart, GroupStop}
use Rattle.dna_items.specs.declared.items.TplItem.{TplItem}
use Rattle.dna_items.specs.declared.items.TplItem.TheVariants.{Base as TplLiteral, Group, Len}
use Rattle.dna_items.specs.Balance.{IsBalanced}

-- the end of a pattern and of a template
abbrev pub end_code : List Base
end_code = I ∷ I ∷ C ∷ []

-- an item of a pattern as DNA
abbrev pub pattern_item_code : PatItem → List Base
pattern_item_code (Literal b) = quote_of b
pattern_item_code (Skip n) = I ∷ P ∷ asnat n
pattern_item_code (Search s) = I ∷ F ∷ F ∷ quote s
pattern_item_code GroupStart = I ∷ I ∷ P ∷ []
pattern_item_code GroupStop = I ∷ I ∷ C ∷ []

-- an item of a template as DNA; the level stands before the group
abbrev pub template_item_code : TplItem → List Base
template_item_code (TplLiteral b) = quote_of b
template_item_code (Group n level) = I ∷ F ∷ (asnat level ++ asnat n)
template_item_code (Len n) = I ∷ I ∷ P ∷ asnat n

-- the items of a pattern as DNA, without an end
abbrev pub pattern_code : List PatItem → List Base
pattern_code items = flat_map pattern_item_code items

-- the items of a template as DNA, without an end
abbrev pub template_code : List TplItem → List Base
template_code items = flat_map template_item_code items

-- a pattern and a template as DNA, each with its end
abbrev pub pair_code : List PatItem → List TplItem → List Base
pair_code pattern template = pattern_code pattern ++ (end_code ++ (template_code template ++ end_code))

abbrev pub is_search : PatItem → Bool
is_search (Literal b) = false
is_search (Skip n) = false
is_search (Search s) = true
is_search GroupStart = false
is_search GroupStop = false

abbrev pub is_base : PatItem → Bool
is_base (Literal b) = true
is_base (Skip n) = false
is_base (Search s) = false
is_base GroupStart = false
is_base GroupStop = false

-- some search stands directly before a base, whose quote its constants would take
abbrev pub has_search_before_base : List PatItem → Bool
has_search_before_base [] = false
has_search_before_base (x ∷ []) = false
has_search_before_base (x ∷ y ∷ items) = (is_search x && is_base y) || has_search_before_base (y ∷ items)

-- what a pattern must be where DNA is read as it and gives no RNA: balanced, and with no search directly before a base
pub record IsReadable (items : List PatItem) : Type 0 where
  pub balanced : IsBalanced items
  pub apart : has_search_before_base items ≡ false
