use Rattle.std.specs.Prelude.{ℕ, ◌+◌, ◌≤◌}

-- the counter rose by at most so many steps
abbrev pub Ticks : ℕ → ℕ → ℕ → Type 0
Ticks old new most = (old ≤ new) × (new ≤ old + most)
