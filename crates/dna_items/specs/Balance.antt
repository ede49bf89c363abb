-- Group starts and group ends of a pattern.
use Rattle.std.specs.Prelude.{◌≡◌, ℕ, ◌+◌, ◌≤◌, List, [], ◌∷◌, take}
use Rattle.dna_items.specs.declared.items.PatItem.{PatItem}
use Rattle.dna_items.specs.declared.items.PatItem.TheVariants.{Base, Skip, Search, GroupStart, GroupStop}

-- whether an item starts a group, as 1 or 0
abbrev pub start_of : PatItem → ℕ
start_of (Base b) = 0
start_of (Skip n) = 0
start_of (Search s) = 0
start_of GroupStart = 1
start_of GroupStop = 0

-- whether an item ends a group, as 1 or 0
abbrev pub stop_of : PatItem → ℕ
stop_of (Base b) = 0
stop_of (Skip n) = 0
stop_of (Search s) = 0
stop_of GroupStart = 0
stop_of GroupStop = 1

-- how many groups are started
abbrev pub starts : List PatItem → ℕ
starts [] = 0
starts (item ∷ items) = start_of item + starts items

-- how many groups are ended
abbrev pub stops : List PatItem → ℕ
stops [] = 0
stops (item ∷ items) = stop_of item + stops items

-- there are as many starts as ends, and no front of the items has more ends than starts
pub record IsBalanced (items : List PatItem) : Type 0 where
  pub even : starts items ≡ stops items
  pub fronts : (n : ℕ) → stops (take n items) ≤ starts (take n items)
