-- Ranges of a list.
pub use Rattle.fuun_base.proofs.Ranges.{length-range}
use Rattle.std.proofs.Common.{ℕ, ◌≤◌, List, length, slice_range, arith}
use Rattle.fuun_base.specs.declared.letters.Base.{Base}
use Rattle.fuun_base.specs.Tally.{tally_of, tally_total}
use Rattle.fuun_base.proofs.Counting.{tally_total-tally_of}

-- a range's tally counts no more bases than there are
pub tally_total-range : (d : List Base) (lo hi : ℕ) → hi ≤ length d → tally_total (tally_of (slice_range d lo hi)) ≤ length d
tally_total-range d lo hi within = omega (arith, tally_total-tally_of (slice_range d lo hi), length-range d lo hi within)
