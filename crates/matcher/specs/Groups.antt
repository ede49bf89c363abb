-- The groups of a match: each goes from the partner of a group end to that end, in the order of the ends.
use Rattle.std.specs.Prelude.{◌≡◌, ℕ, ◌+◌, ◌<◌, Some, List, length, take, slice_get, slice_index, slice_range}
use Rattle.dna_items.specs.declared.items.PatItem.{PatItem}
use Rattle.dna_items.specs.declared.items.PatItem.TheVariants.{GroupStart, GroupStop}
use Rattle.dna_items.specs.Balance.{IsBalanced, stops}

-- the group start that belongs to a group end: what stands between the two is balanced
pub record IsPartner (items : List PatItem) (start stop : ℕ) : Type 0 where
  pub before : start < stop
  pub starts : slice_get items start ≡ Some GroupStart
  pub ends : slice_get items stop ≡ Some GroupStop
  pub between : IsBalanced (slice_range items (start + 1) stop)

-- the group ended by the item at `stop`: its number is that of the ends before it
abbrev pub IsGroup : List PatItem → List ℕ → List (ℕ × ℕ) → ℕ → Type 0
IsGroup items places groups stop =
    (start : ℕ)
    × IsPartner items start stop
    × (slice_get groups (stops (take stop items)) ≡ Some (slice_index places start, slice_index places stop))

-- the groups, as ranges of places
pub record AreGroups (items : List PatItem) (places : List ℕ) (groups : List (ℕ × ℕ)) : Type 0 where
  pub number : length groups ≡ stops items
  pub each : (stop : ℕ) → slice_get items stop ≡ Some GroupStop → IsGroup items places groups stop
