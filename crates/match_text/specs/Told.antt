-- What is told of a pattern's items on a DNA. Places count from the DNA's first base.
use Rattle.std.specs.Prelude.{◌≡◌, ℕ, ◌<◌, ◌≤◌, Some, List, [], ◌∷◌, ◌++◌, length, take, slice_get, Option, Result, Ok, Err}
use Rattle.fuun_base.specs.declared.letters.Base.{Base}
use Rattle.fuun_io.specs.Written.{appended, PutsFront}
use Rattle.dna_items.specs.declared.items.PatItem.{PatItem}
use Rattle.listing.specs.declared.pairs.ListError.{ListError}
use Rattle.listing.specs.declared.pairs.ListError.TheVariants.{WriteFault, NoMemory}
use Rattle.matcher.specs.Groups.{AreGroups}
use Rattle.matcher.specs.Match.{LeadThrough, last_place}
use Rattle.matcher.specs.Step.{MeetsNowhere}
use Rattle.match_text.specs.Way.{parts, way, group_lines}

-- the first items lead from the front of d through these places, one an item, and the next item, if there is one, leads nowhere
pub record LeadSoFar (d : List Base) (items : List PatItem) (places : List ℕ) : Type 0 where
  pub within : length places ≤ length items
  pub through : LeadThrough d (take (length places) items) 0 places
  pub stuck : (item : PatItem) → slice_get items (length places) ≡ Some item → MeetsNowhere d item (last_place (0 ∷ places))

-- the groups of a match, where all items lead on, and else none
pub record GroupsSoFar (items : List PatItem) (places : List ℕ) (groups : List (ℕ × ℕ)) : Type 0 where
  pub matched : length places ≡ length items → AreGroups items (0 ∷ places) groups
  pub failed : length places < length items → groups ≡ []

-- a text tells how the items go through d
pub record TellsMatch (d : List Base) (items : List PatItem) (text : List ℕ) : Type 0 where
  pub places : List ℕ
  pub so_far : LeadSoFar d items places
  pub groups : List (ℕ × ℕ)
  pub grouped : GroupsSoFar items places groups
  pub is : text ≡ way (parts items) 0 places ++ group_lines 0 groups

-- the text was put whole at Ok, and a front of it after a fault; without memory nothing was put
abbrev pub PutsMatch : List Base → List PatItem → Result Unit ListError → Option (List ℕ) → Option (List ℕ) → Type 0
PutsMatch d items (Ok done) old new = (text : List ℕ) × TellsMatch d items text × (new ≡ appended old text)
PutsMatch d items (Err WriteFault) old new = (text : List ℕ) × TellsMatch d items text × PutsFront old new text
PutsMatch d items (Err NoMemory) old new = new ≡ old
