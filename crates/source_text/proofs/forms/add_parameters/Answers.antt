use Rattle.std.proofs.Common.{◌+◌, ◌∷◌, [], ap, drop, subst, sym, refl}
use Rattle.source_text.specs.declared.pieces.Item.TheVariants.{Given}
use Rattle.source_text.specs.Keeping.{AreKnown, IsHeld}
use Rattle.source_text.specs.Names.{Definition, Names}
use Rattle.source_text.specs.Pieces.{piece_at}
use Rattle.source_text.proofs.DefinitionLemmas.{ParametersFound, is_parameter, parameters_all, parameters_first, parameters_more}
use Rattle.source_text.proofs.forms.add_parameters.Goals as goal

pub parameters-init : goal.parameters-init
parameters-init c = record {
  place = refl;
  found = λ names known.
      subst (λ f. ParametersFound c.args.limit names c.args.parameters.now c.args.known.now.items f 0 c.args.parameters.now) (sym c.none-faults.ensures)
      (parameters_first c.args.limit names c.args.parameters.now c.args.known.now.items known);
}

pub parameters-preserved : goal.parameters-preserved
parameters-preserved c = record {
  place = ap (λ n. n + 1) c.parameters.invariant.place;
  found = λ names known.
      let meant = is_parameter c.args.limit c.parameters.parameter-index c.in_ok-held.held (subst (λ k. IsHeld c.args.limit c.in_ok-held.held (piece_at 0 (Given k) ∷ [])) c.parameters.invariant.place c.in_ok-held.ensures) in
      let here : (now : Names) → AreKnown c.args.limit c.parameters.known.items now → AreKnown c.args.limit c.as_slice.result.now now = λ now are. subst (λ l. AreKnown c.args.limit l now) (sym c.as_slice.ensures.value) are in
      subst (λ f. ParametersFound c.args.limit names c.args.parameters.now c.set_known.new.known.items f (c.parameters.parameter-index + 1) (drop (c.parameters.parameter-index + 1) c.args.parameters.now)) (sym c.and-faults.ensures)
      (parameters_more c.args.limit names c.args.parameters.now c.parameters.known.items c.set_known.new.known.items c.parameters.faults c.name_faults.result c.parameters.parameter-index (record { id = 0; at = 0 })
      c.parameters-test.true (λ now are. c.name_faults.ensures c.args.limit now (here now are)) (λ now are. c.in_ok-set_known.ensures c.args.limit now (Definition 0 (piece_at 0 (Given c.parameters.parameter-index) ∷ [])) are meant)
      (c.parameters.invariant.found names known));
}

pub returns : goal.returns
returns c names known = parameters_all c.args.limit names c.args.parameters.now c.parameters.known.items c.parameters.faults c.parameters.parameter-index c.parameters-test.false (c.parameters.invariant.found names known)
