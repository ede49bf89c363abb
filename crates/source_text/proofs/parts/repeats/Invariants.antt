use Rattle.std.proofs.Common.{◌≤◌, length}
use Rattle.source_text.specs.Keeping.{IsWorth}
use Rattle.source_text.specs.Sequences.{Worth}
use Rattle.source_text.proofs.PartLemmas.{RepeatsFound}
use Rattle.source_text.proofs.parts.repeats.Given as goal

abbrev pub invariant-times : goal.invariant-times
invariant-times l = record {
  within : length l.rest ≤ length l.tokens;
  found : (x : Worth) → IsWorth l.scope.limit l.fn.part x → RepeatsFound l.scope.limit x l.tokens l.found l.rest;
}

abbrev pub decreases-times : goal.decreases-times
decreases-times l = length l.rest
