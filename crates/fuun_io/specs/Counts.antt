-- Counts of faults and of bytes given. A count never falls and ends at the last value of a u64.
use Rattle.std.specs.Prelude.{◌≡◌, ℕ, ◌+◌, ◌-◌, ◌^◌, ◌≤◌, min, max, Result, MatchResult}

-- where a count stands after k more
abbrev pub raised : ℕ → ℕ → ℕ
raised count k = max count (min (count + k) (2 ^ 64 - 1))

-- a fault was counted: the count grew, or stands at its last value
abbrev pub Rose : ℕ → ℕ → Type 0
Rose old new = raised old 1 ≤ new

-- an error comes only where a fault was counted, and Ok leaves the count as it was
abbrev pub HasCause : {T E : Type 0} → ℕ → ℕ → Result T E → Type 0
HasCause old new result = MatchResult result (λ _. new ≡ old) (λ _. Rose old new)
