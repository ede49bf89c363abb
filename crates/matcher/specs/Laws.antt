-- What holds of matches and their groups.
use Rattle.std.specs.Prelude.{◌≡◌, ◌⊎◌, ℕ, Some, List, slice_get}
use Rattle.fuun_base.specs.declared.letters.Base.{Base}
use Rattle.dna_items.specs.declared.items.PatItem.{PatItem}
use Rattle.dna_items.specs.declared.items.PatItem.TheVariants.{GroupStop}
use Rattle.dna_items.specs.Balance.{IsBalanced}
use Rattle.matcher.specs.Match.{IsMatch, HasNoMatch}
use Rattle.matcher.specs.Groups.{IsPartner, AreGroups}

-- items have a match on a DNA, or none
abbrev pub HasMatchOrNone : Type 0
HasMatchOrNone = (d : List Base) (items : List PatItem) → ((places : List ℕ) × IsMatch d items places) ⊎ HasNoMatch d items

-- and at most one
abbrev pub AtMostOneMatch : Type 0
AtMostOneMatch =
    (d : List Base) (items : List PatItem) (places places' : List ℕ)
    → IsMatch d items places → IsMatch d items places' → places ≡ places'

-- each group end of balanced items belongs to a group start
abbrev pub EachEndHasPartner : Type 0
EachEndHasPartner =
    (items : List PatItem) (stop : ℕ)
    → IsBalanced items → slice_get items stop ≡ Some GroupStop → (start : ℕ) × IsPartner items start stop

-- and to only one
abbrev pub OnePartner : Type 0
OnePartner =
    (items : List PatItem) (start start' stop : ℕ)
    → IsPartner items start stop → IsPartner items start' stop → start ≡ start'

-- balanced items have groups at every list of places
abbrev pub HasGroups : Type 0
HasGroups = (items : List PatItem) (places : List ℕ) → IsBalanced items → (groups : List (ℕ × ℕ)) × AreGroups items places groups

-- and only one list of them
abbrev pub OneListOfGroups : Type 0
OneListOfGroups =
    (items : List PatItem) (places : List ℕ) (groups groups' : List (ℕ × ℕ))
    → AreGroups items places groups → AreGroups items places groups' → groups ≡ groups'
