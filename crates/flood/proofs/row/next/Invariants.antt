use Rattle.std.proofs.Common.{◌-◌, ◌≢◌, ℕ, ◌<◌, ◌≤◌, slice_index_or}
use Rattle.canvas.specs.Pixels.{transparent}
use Rattle.flood.proofs.row.next.Given as goal

abbrev pub invariant-loop-place : goal.invariant-loop-place
invariant-loop-place l = record {
  start : l.start ≤ l.place;
  passed : (k : ℕ) → l.start ≤ k → k < l.place → slice_index_or l.row k transparent ≢ l.pixel;
}

abbrev pub decreases-loop-place : goal.decreases-loop-place
decreases-loop-place l = l.stop - l.place
