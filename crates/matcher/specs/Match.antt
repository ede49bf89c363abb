-- A match: the places that the items of a pattern lead through, the first of them 0.
use Rattle.std.specs.Prelude.{◌≡◌, ℕ, ◌+◌, ◌≤◌, Some, List, [], ◌∷◌, length, slice_get}
use Rattle.fuun_base.specs.declared.letters.Base.{Base}
use Rattle.fuun_base.specs.Occurrence.{IsFirst}
use Rattle.dna_items.specs.declared.items.PatItem.{PatItem}
use Rattle.dna_items.specs.declared.items.PatItem.TheVariants.{Base as Literal, Skip, Search, GroupStart, GroupStop}

-- two neighbouring places in d meet what an item asks of them
abbrev pub Meets : List Base → PatItem → ℕ → ℕ → Type 0
Meets d (Literal b) i j = (slice_get d i ≡ Some b) × (j ≡ i + 1)
Meets d (Skip n) i j = (j ≡ i + n) × (j ≤ length d)
Meets d (Search s) i j = (found : ℕ) × IsFirst s d i found × (j ≡ found + length s)
Meets d GroupStart i j = j ≡ i
Meets d GroupStop i j = j ≡ i

-- the items lead from a place through the further ones, one an item
abbrev pub LeadThrough : List Base → List PatItem → ℕ → List ℕ → Type 0
LeadThrough d [] i [] = Unit {0}
LeadThrough d [] i (j ∷ places) = ⊥
LeadThrough d (item ∷ items) i [] = ⊥
LeadThrough d (item ∷ items) i (j ∷ places) = Meets d item i j × LeadThrough d items j places

-- the places are a match of the items on d: one more than the items, from 0 on
abbrev pub IsMatch : List Base → List PatItem → List ℕ → Type 0
IsMatch d items [] = ⊥
IsMatch d items (i ∷ places) = (i ≡ 0) × LeadThrough d items i places

-- the last place
abbrev pub last_place : List ℕ → ℕ
last_place [] = 0
last_place (i ∷ []) = i
last_place (i ∷ j ∷ places) = last_place (j ∷ places)

-- the items have no match on d
abbrev pub HasNoMatch : List Base → List PatItem → Type 0
HasNoMatch d items = (places : List ℕ) → IsMatch d items places → ⊥
