-- How far a list of bases repeats its first ones from each of its places on.
use Rattle.std.specs.Prelude.{◌≡◌, ◌≢◌, ℕ, ◌+◌, ◌<◌, ◌≤◌, List, length, slice_index_or}
use Rattle.fuun_base.specs.declared.letters.Base.{Base}
use Rattle.fuun_base.specs.declared.letters.Base.TheVariants.{I}

-- so many bases from a place on are the same as the first
abbrev pub IsSame : List Base → ℕ → ℕ → Type 0
IsSame s at same = (k : ℕ) → k < same → slice_index_or s (at + k) I ≡ slice_index_or s k I

-- the base behind them, if there is one, is another
abbrev pub IsOther : List Base → ℕ → ℕ → Type 0
IsOther s at same = at + same < length s → slice_index_or s (at + same) I ≢ slice_index_or s same I

pub record IsFront (s : List Base) (at same : ℕ) : Type 0 where
  pub within : at + same ≤ length s
  pub alike : IsSame s at same
  pub other : IsOther s at same

-- for each place that a list of numbers counts, how many bases from there on are the same as the first
abbrev pub FrontsTo : List Base → List ℕ → Type 0
FrontsTo s fronts = (at : ℕ) → at < length fronts → IsFront s at (slice_index_or fronts at 0)

-- for each place, how many bases from there on are the same as the first
pub record AreFronts (s : List Base) (fronts : List ℕ) : Type 0 where
  pub count : length fronts ≡ length s
  pub each : FrontsTo s fronts
