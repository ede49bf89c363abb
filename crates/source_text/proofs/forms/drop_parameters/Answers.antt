use Rattle.source_text.specs.Names.{Unknown}
use Rattle.source_text.proofs.DefinitionLemmas.{left_first, left_more, left_none}
use Rattle.source_text.proofs.forms.drop_parameters.Goals as goal

pub parameters-init : goal.parameters-init
parameters-init c limit names none known = left_first limit names c.args.parameters.now c.args.known.now.items none known

pub parameters-preserved : goal.parameters-preserved
parameters-preserved c limit names none known =
    left_more limit names c.args.parameters.now c.parameters.known.items c.set_known.new.known.items c.parameters.parameter-index (record { id = 0; at = 0 }) c.parameters-test.true
    (λ now are. c.in_ok-set_known.ensures limit now Unknown are tt) (c.parameters.invariant limit names none known)

pub returns : goal.returns
returns c limit names none known = left_none limit names c.args.parameters.now c.parameters.known.items c.parameters.parameter-index c.parameters-test.false (c.parameters.invariant limit names none known)
