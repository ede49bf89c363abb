use Rattle.std.proofs.Common.{◌≤◌, length}
use Rattle.source_text.proofs.FormLemmas.{SpotsFound}
use Rattle.source_text.proofs.forms.parameters.Given as goal

abbrev pub invariant-spots : goal.invariant-spots
invariant-spots l = record {
  within : length l.rest ≤ length l.tokens;
  found : SpotsFound l.tokens l.spots l.rest;
}

abbrev pub decreases-spots : goal.decreases-spots
decreases-spots l = length l.rest
