-- The places that a search keeps open: those at which a list of bases may stand, as far as cells were read.
use Rattle.std.specs.Prelude.{◌≡◌, ◌≢◌, ℕ, ◌+◌, ◌-◌, ◌<◌, ◌≤◌, Option, None, Some, List, [], ◌∷◌, length, slice_get, slice_index_or}
use Rattle.fuun_base.specs.declared.letters.Base.{Base}
use Rattle.fuun_base.specs.declared.letters.Base.TheVariants.{I}
use Rattle.dna_items.specs.declared.items.PatItem.TheVariants.{Search}
use Rattle.sym_strand.specs.declared.cells.Cell.{Cell}
use Rattle.sym_strand.specs.declared.cells.Cell.TheVariants.{Known}
use Rattle.explainer.specs.Windows.{IsOut, AreOut}
use Rattle.explainer.specs.Repeats.{FrontsTo}
use Rattle.explainer.specs.Passing.{PassesSo}
use Rattle.explainer.specs.declared.passing.Passing.{Passing}

-- s can't stand at any place from one on and before another, but maybe at these, in rising order
abbrev pub OutBut : List Base → List Cell → ℕ → List ℕ → ℕ → Type 0
OutBut s z from [] to = (from ≤ to) × AreOut s z from to
OutBut s z from (p ∷ begun) to = (from ≤ p) × AreOut s z from p × OutBut s z (p + 1) begun to

-- open places up to one become others up to a later one
abbrev pub GoesOn : List Base → List Cell → List ℕ → ℕ → List ℕ → ℕ → Type 0
GoesOn s z begun to later next = (from : ℕ) → OutBut s z from begun to → OutBut s z from later next

-- the first of some bases, so many, stand at a place of cells
abbrev pub FrontIsThere : List Base → ℕ → List Cell → ℕ → Type 0
FrontIsThere x count z place = (k : ℕ) → k < count → slice_get z (place + k) ≡ Some (Known (slice_index_or x k I))

-- the same wherever these bases stand at the first of the places
abbrev pub GoesOnAlong : List Base → List Base → List ℕ → ℕ → List ℕ → ℕ → Type 0
GoesOnAlong s x begun place later next = (z : List Cell) → FrontIsThere x (length x) z place → GoesOn s z begun place later next

-- places of bases that are the first of some s, which has these fronts, are open or s can't stand there
abbrev pub OpensRepeats : List ℕ → ℕ → List ℕ → List ℕ → Type 0
OpensRepeats fronts first begun later =
    (s : List Base) (z : List Cell) → FrontsTo s fronts → length fronts ≤ length s → FrontIsThere s (length fronts) z first → GoesOn s z begun first later (first + length fronts)

-- the part of s that lies from a place on, if it begins at an earlier one
abbrev pub LiesFrom : List Base → ℕ → ℕ → List Base → Type 0
LiesFrom s begin place rest = (k : ℕ) → k < length rest → (begin ≤ place) × (place - begin + k < length s) × (slice_index_or rest k I ≡ slice_index_or s (place - begin + k) I)

-- a place at which two lists have different bases
pub record DifferAt (x y : List Base) (at : ℕ) : Type 0 where
  pub inside : at < length x
  pub within : at < length y
  pub differ : slice_index_or x at I ≢ slice_index_or y at I

-- what the first open place at which s ends early enough answers; without one, s can't stand where it would end so
abbrev pub ClosesSo : List Base → List Cell → List ℕ → ℕ → Option Passing → Type 0
ClosesSo s z begun end (Some passing) = (from to : ℕ) → OutBut s z from begun to → PassesSo z (Search s) from passing
ClosesSo s z begun end None = (from to place : ℕ) → OutBut s z from begun to → from ≤ place → place < to → place + length s ≤ end → IsOut s z place
