use Rattle.std.proofs.Common.{◌++◌, ◌∷◌, ◌∙◌, [], ap, subst, sym}
use Rattle.source_text.specs.Keeping.{AreHeld}
use Rattle.source_text.specs.Reading.{both_faults}
use Rattle.source_text.proofs.SequenceLemmas.{given_more}
use Rattle.source_text.proofs.sequences.with_given.Goals as goal

pub returns : goal.returns
returns c limit u x first second = record {
  held =
      subst (λ h. AreHeld limit h (u.given ++ x.pieces ∷ [])) (sym c.in_ok-push.ensures.items)
      (given_more limit c.args.given.held.items u.given c.args.next.held x.pieces first.held second.held);
  faults = c.and.ensures ∙ ap (λ f. both_faults f c.args.next.faults) first.faults ∙ ap (both_faults u.faults) second.faults;
}
