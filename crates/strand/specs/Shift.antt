-- How far a needle is moved on where a search finds another base than it wants.
use Rattle.std.specs.Prelude.{◌≡◌, ℕ, ◌+◌, ◌-◌, ◌<◌, ◌≤◌, List, length, slice_index, slice_index_or}
use Rattle.fuun_base.specs.declared.letters.Base.{Base}
use Rattle.fuun_base.specs.declared.letters.Base.TheVariants.{I}

-- the first bases of s, so many, stand in d from a place on
abbrev pub IsFront : List Base → List Base → ℕ → ℕ → Type 0
IsFront s d place len = (k : ℕ) → k < len → slice_index_or d (place + k) I ≡ slice_index_or s k I

-- the least way to move s on over itself such that what was found of it, its first len bases, still fits
pub record IsShift (s : List Base) (len shift : ℕ) : Type 0 where
  pub some : 0 < shift
  pub most : shift ≤ len + 1
  pub fits : IsFront s s shift (len - shift)
  pub least : (other : ℕ) → 0 < other → other < shift → IsFront s s other (len - other) → ⊥

-- the table has the shift for each number of bases found
abbrev pub AreShifts : List Base → List ℕ → Type 0
AreShifts s shifts = (len : ℕ) → len < length shifts → IsShift s len (slice_index shifts len)
