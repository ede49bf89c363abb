-- How the items of a pattern go through cells: an item leads from a place to another, or fails there, or depends on the target.
use Rattle.std.specs.Prelude.{◌≡◌, ◌≢◌, ◌⊎◌, ℕ, ◌+◌, ◌<◌, ◌≤◌, Some, List, [], ◌∷◌, length, slice_get}
use Rattle.fuun_base.specs.declared.letters.Base.{Base}
use Rattle.dna_items.specs.declared.items.PatItem.{PatItem}
use Rattle.dna_items.specs.declared.items.PatItem.TheVariants.{Base as Literal, Skip, Search, GroupStart, GroupStop}
use Rattle.sym_strand.specs.declared.cells.Cell.{Cell}
use Rattle.sym_strand.specs.declared.cells.Cell.TheVariants.{Known, Target}
use Rattle.explainer.specs.Windows.{IsSureFirst, IsUnsureFirst, IsOutEverywhere}

-- an item leads from a place to another, whatever the target
abbrev pub Leads : List Cell → PatItem → ℕ → ℕ → Type 0
Leads z (Literal b) i j = (slice_get z i ≡ Some (Known b)) × (j ≡ i + 1)
Leads z (Skip n) i j = (j ≡ i + n) × (j ≤ length z)
Leads z (Search s) i j = (place : ℕ) × IsSureFirst s z i place × (j ≡ place + length s)
Leads z GroupStart i j = j ≡ i
Leads z GroupStop i j = j ≡ i

-- an item fails at a place, whatever the target
abbrev pub Fails : List Cell → PatItem → ℕ → Type 0
Fails z (Literal b) i = (length z ≤ i) ⊎ ((c : Base) × (slice_get z i ≡ Some (Known c)) × (c ≢ b))
Fails z (Skip n) i = length z < i + n
Fails z (Search s) i = IsOutEverywhere s z i
Fails z GroupStart i = ⊥
Fails z GroupStop i = ⊥

-- what an item does at a place depends on the target
abbrev pub Depends : List Cell → PatItem → ℕ → Type 0
Depends z (Literal b) i = (place : ℕ) × (slice_get z i ≡ Some (Target place))
Depends z (Skip n) i = ⊥
Depends z (Search s) i = (place : ℕ) × IsUnsureFirst s z i place
Depends z GroupStart i = ⊥
Depends z GroupStop i = ⊥

-- the items lead from a place through the further ones, one an item
abbrev pub LeadAlong : List Cell → List PatItem → ℕ → List ℕ → Type 0
LeadAlong z [] i [] = Unit {0}
LeadAlong z [] i (j ∷ places) = ⊥
LeadAlong z (item ∷ items) i [] = ⊥
LeadAlong z (item ∷ items) i (j ∷ places) = Leads z item i j × LeadAlong z items j places

-- the first item that does not lead on fails
abbrev pub FailAlong : List Cell → List PatItem → ℕ → Type 0
FailAlong z [] i = ⊥
FailAlong z (item ∷ items) i = Fails z item i ⊎ ((j : ℕ) × Leads z item i j × FailAlong z items j)

-- the first item that does not lead on depends on the target
abbrev pub DependAlong : List Cell → List PatItem → ℕ → Type 0
DependAlong z [] i = ⊥
DependAlong z (item ∷ items) i = Depends z item i ⊎ ((j : ℕ) × Leads z item i j × DependAlong z items j)
