use Rattle.std.proofs.Common.{◌≡◌, ℕ, ◌-◌, ◌<◌, ◌≤◌, length, slice_index_or}
use Rattle.canvas.specs.Pixels.{transparent}
use Rattle.flood.proofs.row.east_end.Given as goal

abbrev pub invariant-loop-stop : goal.invariant-loop-stop
invariant-loop-stop l = record {
  start : l.place ≤ l.stop;
  inside : l.stop ≤ length l.row;
  run : (k : ℕ) → l.place ≤ k → k < l.stop → slice_index_or l.row k transparent ≡ l.pixel;
}

abbrev pub decreases-loop-stop : goal.decreases-loop-stop
decreases-loop-stop l = length l.row - l.stop
