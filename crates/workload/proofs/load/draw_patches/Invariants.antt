use Rattle.std.proofs.Common.{◌≡◌, ◌+◌, ◌-◌, ◌*◌, ◌^◌, ◌≤◌, ◌++◌, true, length}
use Rattle.std.specs.List.{list_all}
use Rattle.workload.specs.Load.{rows_drawn}
use Rattle.workload.specs.Laws.{is_light}
use Rattle.workload.proofs.load.draw_patches.Given as goal

abbrev pub invariant-loop-round : goal.invariant-loop-round
invariant-loop-round l = record {
  stated : l.patches.stated ≡ l.size;
  rows : l.patches.rows ++ rows_drawn (l.rounds - l.round) l.len l.numbers ≡ rows_drawn l.rounds l.size l.fn.numbers;
  count : length l.patches.rows ≡ l.round;
  light : list_all (is_light (2 ^ 25)) l.patches.rows ≡ true;
  len : l.len ≤ l.size + 7 * l.round;
}
