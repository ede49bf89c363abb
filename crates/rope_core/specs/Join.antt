-- Heights and steps of nodes that are joined and cut.
use Rattle.std.specs.Prelude.{ℕ, ◌+◌, ◌-◌, ◌/◌, ◌≤◌, max}

-- how far apart two numbers are
abbrev pub apart : ℕ → ℕ → ℕ
apart a b = (a - b) + (b - a)

-- a height that two joined nodes of these heights may have
abbrev pub IsJoinedHeight : ℕ → ℕ → ℕ → Type 0
IsJoinedHeight a b height = (max a b ≤ height) × (height ≤ max a b + 1)

-- how many leaves of 512 bases hold so many bases
abbrev pub leaves_for : ℕ → ℕ
leaves_for n = (n + 511) / 512
