use Rattle.std.proofs.Common.{◌≡◌, ℕ, None, drop}
use Rattle.source_text.specs.Forms.{with_parameters}
use Rattle.source_text.specs.Judging.{known_faults}
use Rattle.source_text.specs.Keeping.{AreKnown}
use Rattle.source_text.specs.Names.{Names}
use Rattle.source_text.proofs.DefinitionLemmas.{ParametersLeft}
use Rattle.source_text.proofs.forms.drop_parameters.Given as goal

abbrev pub invariant-parameters : goal.invariant-parameters
invariant-parameters l =
    (limit : ℕ) (names : Names) → (known_faults names l.parameters).name ≡ None → AreKnown limit l.fn.known.items (with_parameters 0 names l.parameters)
    → ParametersLeft limit names l.known.items (drop l.parameter-index l.parameters)
