use Rattle.std.proofs.Common.{◌≡◌, ℕ, ◌<◌, ◌≤◌, slice_index_or}
use Rattle.canvas.specs.Pixels.{transparent}
use Rattle.flood.proofs.row.west_end.Given as goal

abbrev pub invariant-loop-start : goal.invariant-loop-start
invariant-loop-start l = record {
  start : l.start ≤ l.place;
  run : (k : ℕ) → l.start ≤ k → k < l.place → slice_index_or l.row k transparent ≡ l.pixel;
}

abbrev pub decreases-loop-start : goal.decreases-loop-start
decreases-loop-start l = l.start
