use Rattle.std.proofs.Common.{◌≡◌, ◌-◌, ◌≤◌, length, take, true}
use Rattle.std.specs.List.{list_all}
use Rattle.match_text.specs.Way.{is_base}
use Rattle.match_text.proofs.way.bases_ahead.Given as goal

abbrev pub invariant-bases : goal.invariant-bases
invariant-bases l = record {
  within : l.count ≤ length l.items;
  bases : list_all is_base (take l.count l.items) ≡ true;
}

abbrev pub decreases-bases : goal.decreases-bases
decreases-bases l = length l.items - l.count
