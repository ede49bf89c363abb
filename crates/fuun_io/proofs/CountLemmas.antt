-- Lemmas on counts.
use Rattle.std.proofs.Common.{◌≡◌, ℕ, ◌+◌, ◌≤◌, arith}
use Rattle.fuun_io.specs.Counts.{raised, Rose}

-- a count raised twice
pub raised-raised : (count j k : ℕ) → raised (raised count j) k ≡ raised count (j + k)
raised-raised count j k = omega arith

pub raised-zero : (count : ℕ) → raised count 0 ≡ count
raised-zero count = omega arith

-- a count that rose in one call and did not fall in the calls round it
pub Rose-within : (first old new last : ℕ) → first ≤ old → new ≤ last → Rose old new → Rose first last
Rose-within first old new last before after rose = omega arith

-- a count that rose did not fall
pub Rose-le : (old new : ℕ) → Rose old new → old ≤ new
Rose-le old new rose = omega arith

-- a count that grew rose
pub Rose-lt : (old new : ℕ) → old + 1 ≤ new → Rose old new
Rose-lt old new grew = omega arith
