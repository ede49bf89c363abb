-- Steps of a match, item by item.
use Rattle.std.specs.Prelude.{◌≡◌, ℕ, ◌+◌, ◌≤◌, ◌<◌, ◌⊎◌, Option, MatchOption, List, [], ◌∷◌, ◌++◌, length, take}
use Rattle.fuun_base.specs.declared.letters.Base.{Base}
use Rattle.dna_items.specs.declared.items.PatItem.{PatItem}
use Rattle.dna_items.specs.declared.items.PatItem.TheVariants.{Base as Literal, Skip, Search, GroupStart, GroupStop}
use Rattle.dna_items.specs.Balance.{starts, stops}
use Rattle.matcher.specs.Match.{Meets, LeadThrough, last_place}

-- with this place none meets what the item asks
abbrev pub MeetsNowhere : List Base → PatItem → ℕ → Type 0
MeetsNowhere d item i = (j : ℕ) → Meets d item i j → ⊥

-- the place that an item leads to, or that there is none
abbrev pub Moves : List Base → PatItem → ℕ → Option ℕ → Type 0
Moves d item i moved = MatchOption moved (MeetsNowhere d item i) (Meets d item i)

-- the items lead through no places
abbrev pub LeadNowhere : List Base → List PatItem → ℕ → Type 0
LeadNowhere d items i = (places : List ℕ) → LeadThrough d items i places → ⊥

-- the first items lead to a place: a group start or a group end only by itself
pub record LeadsOver (d : List Base) (items : List PatItem) (i count place : ℕ) : Type 0 where
  pub some : 0 < count
  pub within : count ≤ length items
  pub apart : (count ≡ 1) ⊎ (starts (take count items) + stops (take count items) ≡ 0)
  pub places : List ℕ
  pub through : LeadThrough d (take count items) i places
  pub reached : last_place (i ∷ places) ≡ place

-- what an item makes of the places of the open groups, innermost last, and of the ended groups
abbrev pub Marked : PatItem → ℕ → List ℕ → List (ℕ × ℕ) → List ℕ → List (ℕ × ℕ) → Type 0
Marked (Literal b) at held ended held' ended' = (held' ≡ held) × (ended' ≡ ended)
Marked (Skip n) at held ended held' ended' = (held' ≡ held) × (ended' ≡ ended)
Marked (Search s) at held ended held' ended' = (held' ≡ held) × (ended' ≡ ended)
Marked GroupStart at held ended held' ended' = (held' ≡ held ++ at ∷ []) × (ended' ≡ ended)
Marked GroupStop at held ended held' ended' =
    (start : ℕ) × (held ≡ held' ++ start ∷ []) × (ended' ≡ ended ++ (start, at) ∷ [])
