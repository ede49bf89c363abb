use Rattle.std.proofs.Common.{◌≡◌, drop}
use Rattle.source_text.specs.Keeping.{AreKnown}
use Rattle.source_text.specs.Names.{Names}
use Rattle.source_text.proofs.DefinitionLemmas.{ParametersFound}
use Rattle.source_text.proofs.forms.add_parameters.Given as goal

abbrev pub invariant-parameters : goal.invariant-parameters
invariant-parameters l = record {
  place : l.place ≡ l.parameter-index;
  found : (names : Names) → AreKnown l.limit l.fn.known.items names → ParametersFound l.limit names l.parameters l.known.items l.faults l.parameter-index (drop l.parameter-index l.parameters);
}
