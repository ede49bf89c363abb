use Rattle.std.proofs.Common.{◌≡◌, ◌-◌, ◌<◌, ◌≤◌, length, vec_len}
use Rattle.explainer.specs.Repeats.{IsSame, FrontsTo}
use Rattle.explainer.proofs.repeats.same_fronts.Given as goal

abbrev pub invariant-loop-at : goal.invariant-loop-at
invariant-loop-at l = record {
  count : vec_len l.fronts ≡ l.at;
  fronts : FrontsTo l.list l.fronts.items;
  start : l.start ≤ l.at;
  some : l.at < l.end → 0 < l.start;
  end : l.end ≤ length l.list;
  same : IsSame l.list l.start (l.end - l.start);
}
