use Rattle.std.proofs.Common.{◌<◌, length}
use Rattle.rope_search.specs.Sought.{Goes}
use Rattle.rope_search.proofs.find.KmpTable.walk.Given as goal

abbrev pub invariant-loop-at : goal.invariant-loop-at
invariant-loop-at l = record {
  short : l.found < length l.self;
  goes : Goes l.self l.bases 0 l.initial.found l.at l.found;
}
