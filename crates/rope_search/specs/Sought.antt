-- How far a search has come.
use Rattle.std.specs.Prelude.{◌≡◌, ℕ, ◌+◌, ◌<◌, ◌≤◌, List, length, Option, Some, None, slice_index_or}
use Rattle.fuun_base.specs.declared.letters.Base.{Base}
use Rattle.fuun_base.specs.declared.letters.Base.TheVariants.{I}
use Rattle.fuun_base.specs.Occurrence.{Stands}

-- the bases of a part stand in d from a place on
pub record LiesIn (part d : List Base) (place : ℕ) : Type 0 where
  pub within : place + length part ≤ length d
  pub same : (k : ℕ) → k < length part → slice_index_or d (place + k) I ≡ slice_index_or part k I

-- a search for s in d that began at `from` stands at a place: the `found` bases before it are the first of s,
-- and s stands nowhere before those
pub record IsSought (s d : List Base) (from at found : ℕ) : Type 0 where
  pub after : from + found ≤ at
  pub within : at ≤ length d
  pub part : found ≤ length s
  pub fits : (j k : ℕ) → k < found → j + found ≡ at + k → slice_index_or d j I ≡ slice_index_or s k I
  pub least : (p : ℕ) → from ≤ p → p + found < at → Stands s d p → ⊥

-- a search for s comes through a part from one place to another, wherever the part lies and the search began
abbrev pub Goes : List Base → List Base → ℕ → ℕ → ℕ → ℕ → Type 0
Goes s part a found b later =
    (d : List Base) (from place : ℕ) → LiesIn part d place → IsSought s d from (place + a) found → IsSought s d from (place + b) later

-- what a search tells of a part, from a place on: where s first ends in it, or what is found of s at its end
abbrev pub Searched : List Base → List Base → ℕ → ℕ → Option ℕ → ℕ → Type 0
Searched s part a found None later = (later < length s) × Goes s part a found (length part) later
Searched s part a found (Some end) later = (end ≤ length part) × Goes s part a found end (length s)

-- the first six bases of s stand in a block at a place
abbrev pub Begins : List Base → List Base → ℕ → Type 0
Begins s block place = (k : ℕ) → k < 6 → slice_index_or block (place + k) I ≡ slice_index_or s k I
