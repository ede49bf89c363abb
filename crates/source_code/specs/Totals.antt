-- Lengths of lines with their running totals, from the last line on.
use Rattle.std.specs.Prelude.{◌≡◌, ℕ, ◌+◌, ◌^◌, ◌<◌, ◌≤◌, List, length, reverse, take, slice_index}
use Rattle.source_items.specs.Values.{total}
use Rattle.source_code.specs.declared.behind.Behind.TheInside.{Inside}

-- the lengths, the nearest line's first
abbrev pub lengths_of : Inside → List ℕ
lengths_of behind = reverse behind.lengths.items

-- each total is that of the lengths up to its place, and each length is held
pub record AreTotals (lengths totals : List ℕ) : Type 0 where
  pub many : length totals ≡ length lengths
  pub sums : (k : ℕ) → k < length lengths → slice_index totals k ≡ total (take (k + 1) lengths)
  pub held : (k : ℕ) → slice_index lengths k ≤ 2 ^ 63

abbrev pub HasTotals : Inside → Type 0
HasTotals behind = AreTotals behind.lengths.items behind.totals.items
