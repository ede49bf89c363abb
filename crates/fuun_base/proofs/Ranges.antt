-- Ranges of a list.
use Rattle.std.proofs.Common.{◌≡◌, ℕ, ◌-◌, ◌≤◌, List, length, drop, slice_range, arith}
use Rattle.std.proofs.lemmas.List.{length-drop, length-take-le}

pub length-range : {X : Type 0} (xs : List X) (lo hi : ℕ) → hi ≤ length xs → length (slice_range xs lo hi) ≡ hi - lo
length-range xs lo hi within = length-take-le (hi - lo) (drop lo xs) (omega (arith, length-drop lo xs))
