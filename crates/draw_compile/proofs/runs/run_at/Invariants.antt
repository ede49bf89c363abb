use Rattle.std.proofs.Common.{◌≡◌, ℕ, ◌-◌, ◌<◌, ◌≤◌}
use Rattle.picture_in.specs.Pixmap.{rgb_at}
use Rattle.draw_compile.proofs.runs.run_at.Given as goal

abbrev pub invariant-loop-stop : goal.invariant-loop-stop
invariant-loop-stop l = record {
  some : l.start.x < l.stop;
  within : l.stop ≤ 600;
  all : (k : ℕ) → l.start.x ≤ k → k < l.stop → rgb_at l.picture k l.start.y ≡ l.pixel;
}

abbrev pub decreases-loop-stop : goal.decreases-loop-stop
decreases-loop-stop l = 600 - l.stop
