-- What holds of what is told.
use Rattle.std.specs.Prelude.{◌≡◌, ℕ, List, ◌∷◌, length}
use Rattle.fuun_base.specs.declared.letters.Base.{Base}
use Rattle.dna_items.specs.Balance.{IsBalanced}
use Rattle.dna_items.specs.declared.items.PatItem.{PatItem}
use Rattle.matcher.specs.Match.{IsMatch}
use Rattle.match_text.specs.Told.{LeadSoFar, TellsMatch}

-- there is a text for balanced items
abbrev pub HasText : Type 0
HasText = (d : List Base) (items : List PatItem) → IsBalanced items → (text : List ℕ) × TellsMatch d items text

-- and only one
abbrev pub TextIsOne : Type 0
TextIsOne = (d : List Base) (items : List PatItem) (a b : List ℕ) → TellsMatch d items a → TellsMatch d items b → a ≡ b

-- all items lead on where they have a match, and its places are those of the match
abbrev pub LedIsMatched : Type 0
LedIsMatched =
    (d : List Base) (items : List PatItem) (places : List ℕ) → LeadSoFar d items places
    → (length places ≡ length items → IsMatch d items (0 ∷ places))
    × ((found : List ℕ) → IsMatch d items found → (found ≡ 0 ∷ places) × (length places ≡ length items))
