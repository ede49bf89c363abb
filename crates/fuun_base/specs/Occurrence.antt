-- Where a list of bases stands in another.
use Rattle.std.specs.Prelude.{◌≡◌, ℕ, ◌+◌, ◌≤◌, ◌<◌, List, length, slice_range}
use Rattle.fuun_base.specs.declared.letters.Base.{Base}

-- the bases s stand in d from a place on
pub record Stands (s d : List Base) (place : ℕ) : Type 0 where
  pub within : place + length s ≤ length d
  pub there : slice_range d place (place + length s) ≡ s

-- the least place at or after `from` where s stands in d
pub record IsFirst (s d : List Base) (from place : ℕ) : Type 0 where
  pub after : from ≤ place
  pub stands : Stands s d place
  pub least : (earlier : ℕ) → from ≤ earlier → earlier < place → Stands s d earlier → ⊥

-- s stands nowhere in d at or after `from`
abbrev pub IsAbsent : List Base → List Base → ℕ → Type 0
IsAbsent s d from = (place : ℕ) → from ≤ place → Stands s d place → ⊥
