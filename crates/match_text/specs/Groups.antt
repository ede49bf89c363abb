-- Groups as places of a strand on which the DNA begins at a place.
use Rattle.std.specs.Prelude.{◌≡◌, ℕ, ◌-◌, List, map}
use Rattle.dna_items.specs.declared.items.PatItem.{PatItem}
use Rattle.matcher.specs.Found.{moved}
use Rattle.match_text.specs.Told.{GroupsSoFar}

-- a range, counted from a place
abbrev pub moved_back : ℕ → ℕ × ℕ → ℕ × ℕ
moved_back place range = (range.0 - place, range.1 - place)

-- groups, moved on by a place
pub record AreMovedGroups (place : ℕ) (items : List PatItem) (places : List ℕ) (groups : List (ℕ × ℕ)) : Type 0 where
  pub ranges : List (ℕ × ℕ)
  pub grouped : GroupsSoFar items places ranges
  pub moves : groups ≡ map (moved place) ranges
