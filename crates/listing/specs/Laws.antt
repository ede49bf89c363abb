-- What holds of listings.
use Rattle.std.specs.Prelude.{◌≡◌, ℕ, List}
use Rattle.fuun_base.specs.declared.letters.Base.{Base}
use Rattle.dna_items.specs.declared.items.PatItem.{PatItem}
use Rattle.dna_items.specs.declared.items.TplItem.{TplItem}
use Rattle.dna_items.specs.Held.{held_pattern, held_template}
use Rattle.listing.specs.Lists.{IsListing}
use Rattle.listing.specs.Texts.{pattern_text, template_text}

-- each DNA has a listing of up to so many pairs
abbrev pub HasListing : Type 0
HasListing = (d : List Base) (count : ℕ) → (text : List ℕ) × IsListing d count text

-- and it has only one
abbrev pub HasOneListing : Type 0
HasOneListing = (d : List Base) (count : ℕ) (a b : List ℕ) → IsListing d count a → IsListing d count b → a ≡ b

-- the text of items does not tell whether their numbers are held
abbrev pub HeldPatternHasItsText : Type 0
HeldPatternHasItsText = (items : List PatItem) → pattern_text (held_pattern items) ≡ pattern_text items

abbrev pub HeldTemplateHasItsText : Type 0
HeldTemplateHasItsText = (items : List TplItem) → template_text (held_template items) ≡ template_text items
