use Rattle.std.proofs.Common.{◌≡◌, ◌+◌, ◌-◌, ◌*◌, ◌≤◌, None}
use Rattle.draw_compile.specs.Lengths.{filling_count, run_count}
use Rattle.draw_compile.specs.Runs.{runs_from}
use Rattle.draw_compile.proofs.counting.count_rows.Given as goal

abbrev pub invariant-loop-y : goal.invariant-loop-y
invariant-loop-y l = record {
  runs : l.counts.runs + run_count (runs_from 600 l.picture l.y (600 - l.y)) ≡ run_count (runs_from 600 l.picture 0 600);
  fillings : l.counts.fillings + filling_count l.counts.last (runs_from 600 l.picture l.y (600 - l.y)) ≡ filling_count None (runs_from 600 l.picture 0 600);
  few_runs : l.counts.runs ≤ 600 * l.y;
  few_fillings : l.counts.fillings ≤ 600 * l.y;
}
