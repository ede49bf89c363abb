use Rattle.std.proofs.Common.{◌≡◌, ◌+◌, ◌-◌, ◌*◌, ◌≤◌, List, length, drop}
use Rattle.picture_in.specs.Pixmap.{Rgb}
use Rattle.draw_compile.specs.Drawing.{last_pixel}
use Rattle.draw_compile.specs.Lengths.{row_fillings}
use Rattle.draw_compile.specs.Runs.{row_at, runs_of}
use Rattle.draw_compile.proofs.counting.count_row.Given as goal

abbrev pub invariant-loop-x : goal.invariant-loop-x
invariant-loop-x l =
    let row : List Rgb = row_at 600 l.picture l.y in
    record {
      within : l.x ≤ 600;
      runs : l.counts.runs + length (runs_of (drop l.x row)) ≡ l.fn.before.runs + length (runs_of row);
      fillings : l.counts.fillings + row_fillings l.counts.last (runs_of (drop l.x row)) ≡ l.fn.before.fillings + row_fillings l.fn.before.last (runs_of row);
      last : last_pixel l.counts.last (runs_of (drop l.x row)) ≡ last_pixel l.fn.before.last (runs_of row);
      few_runs : l.counts.runs ≤ 600 * l.y + l.x;
      few_fillings : l.counts.fillings ≤ 600 * l.y + l.x;
    }

abbrev pub decreases-loop-x : goal.decreases-loop-x
decreases-loop-x l = 600 - l.x
