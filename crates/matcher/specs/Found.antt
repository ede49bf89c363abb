-- What a match found, with the place at which the DNA begins added to each place.
use Rattle.std.specs.Prelude.{◌≡◌, ℕ, ◌+◌, ◌≤◌, List, map, drop, All}
use Rattle.fuun_base.specs.declared.letters.Base.{Base}
use Rattle.dna_items.specs.declared.items.PatItem.{PatItem}
use Rattle.matcher.specs.declared.matching.MatchEnd.{MatchEnd}
use Rattle.matcher.specs.declared.matching.MatchEnd.TheVariants.{Matched, NoMatch}
use Rattle.matcher.specs.Match.{IsMatch, HasNoMatch, last_place}
use Rattle.matcher.specs.Groups.{AreGroups}

-- a range of places, moved on
abbrev pub moved : ℕ → ℕ × ℕ → ℕ × ℕ
moved place range = (place + range.0, place + range.1)

-- the items have a match on what d holds from a place on, with this stop and these groups
pub record MatchesAt (d : List Base) (place : ℕ) (items : List PatItem) (stop : ℕ) (groups : List (ℕ × ℕ)) : Type 0 where
  pub places : List ℕ
  pub ranges : List (ℕ × ℕ)
  pub is : IsMatch (drop place d) items places
  pub stops : stop ≡ place + last_place places
  pub grouped : AreGroups items places ranges
  pub moves : groups ≡ map (moved place) ranges

-- a range lies within so many bases
abbrev pub LiesWithin : ℕ → ℕ × ℕ → Type 0
LiesWithin len range = (range.0 ≤ range.1) × (range.1 ≤ len)

-- where a match ended, or that there is none
abbrev pub Finds : List Base → ℕ → List PatItem → MatchEnd → Type 0
Finds d place items (Matched stop groups) = MatchesAt d place items stop groups
Finds d place items NoMatch = HasNoMatch (drop place d) items

-- the stop and the groups lie within so many bases
abbrev pub FindsWithin : ℕ → MatchEnd → Type 0
FindsWithin len (Matched stop groups) = (stop ≤ len) × All (LiesWithin len) groups
FindsWithin len NoMatch = Unit {0}
