use Rattle.std.proofs.Common.{◌≡◌, ◌-◌, ◌≤◌, List, ◌++◌, drop}
use Rattle.picture_in.specs.Pixmap.{Rgb}
use Rattle.draw_compile.specs.Drawing.{codes_of, last_pixel, row_commands}
use Rattle.draw_compile.specs.Runs.{row_at, runs_of}
use Rattle.draw_compile.proofs.drawing.put_row.Given as goal

abbrev pub invariant-loop-x : goal.invariant-loop-x
invariant-loop-x l =
    let row : List Rgb = row_at 600 l.picture l.y in
    record {
      within : l.x ≤ 600;
      added : l.out.items ++ codes_of (row_commands l.last (runs_of (drop l.x row))) ≡ l.fn.out.items ++ codes_of (row_commands l.fn.before (runs_of row));
      last : last_pixel l.last (runs_of (drop l.x row)) ≡ last_pixel l.fn.before (runs_of row);
    }

abbrev pub decreases-loop-x : goal.decreases-loop-x
decreases-loop-x l = 600 - l.x
