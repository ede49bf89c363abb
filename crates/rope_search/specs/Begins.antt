-- Where a list of bases may begin.
use Rattle.std.specs.Prelude.{◌≡◌, ℕ, ◌+◌, ◌<◌, ◌≤◌, List, length, slice_index_or}
use Rattle.fuun_base.specs.declared.letters.Base.{Base}
use Rattle.fuun_base.specs.declared.letters.Base.TheVariants.{I}

-- s stands in d from a place on as far as d goes
abbrev pub Agrees : List Base → List Base → ℕ → Type 0
Agrees s d place = (k : ℕ) → k < length s → place + k < length d → slice_index_or d (place + k) I ≡ slice_index_or s k I

-- the least such place at or after `from`
pub record BeginsFirst (s d : List Base) (from place : ℕ) : Type 0 where
  pub after : from ≤ place
  pub within : place ≤ length d
  pub agrees : Agrees s d place
  pub least : (earlier : ℕ) → from ≤ earlier → earlier < place → Agrees s d earlier → ⊥
