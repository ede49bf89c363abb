-- How cells fit the first bases of a list, as far as they are of one kind.
use Rattle.std.specs.Prelude.{◌≡◌, ◌≢◌, ℕ, ◌<◌, ◌≤◌, Some, List, length, slice_get}
use Rattle.fuun_base.specs.declared.letters.Base.{Base}
use Rattle.sym_strand.specs.declared.cells.Cell.{Cell}
use Rattle.sym_strand.specs.declared.cells.Cell.TheVariants.{Known, Target}
use Rattle.explainer.specs.declared.fitting.Along.{Along}
use Rattle.explainer.specs.declared.fitting.Along.TheVariants.{Same, Other, Holes}

-- so many of them are the same, or the one at a place differs, or so many are places of the target
abbrev pub FitsAlong : List Base → List Cell → Along → Type 0
FitsAlong s z (Same count) =
    (0 < count) × (count ≤ length s) × ((k : ℕ) (b : Base) → k < count → slice_get s k ≡ Some b → slice_get z k ≡ Some (Known b))
FitsAlong s z (Other k) = (b : Base) × (c : Base) × (slice_get s k ≡ Some b) × (slice_get z k ≡ Some (Known c)) × (c ≢ b)
FitsAlong s z (Holes count) =
    (0 < count) × (count ≤ length s) × ((k : ℕ) → k < count → (place : ℕ) × (slice_get z k ≡ Some (Target place)))
