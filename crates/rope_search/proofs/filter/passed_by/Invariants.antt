use Rattle.std.proofs.Common.{◌≤◌, ◌-◌, length}
use Rattle.rope_search.specs.Sought.{Goes}
use Rattle.rope_search.proofs.filter.passed_by.Given as goal

abbrev pub invariant-passing : goal.invariant-passing
invariant-passing g l = record {
  from : l.at ≤ l.place;
  most : l.place ≤ length l.bases;
  goes : Goes l.needle l.bases l.at l.found l.place l.found;
}

abbrev pub decreases-passing : goal.decreases-passing
decreases-passing g l = length l.bases - l.place
