use Rattle.std.proofs.Common.{◌≡◌, ◌∙◌, ◌∷◌, [], Err, Ok, ap, subst, sym}
use Rattle.source_text.specs.declared.faults.Faults.{Faults}
use Rattle.source_text.specs.declared.sequences.Kind.TheVariants.{Template}
use Rattle.source_text.specs.Forming.{AreParameters, IsWhole}
use Rattle.source_text.specs.Forms.{Form, form_of, head, with_parameters}
use Rattle.source_text.specs.Judging.{known_faults}
use Rattle.source_text.specs.Keeping.{AreKnown}
use Rattle.source_text.specs.Reading.{both_faults, seen}
use Rattle.source_text.specs.Sequences.{Worth, sequence}
use Rattle.source_text.proofs.FormLemmas.{define_bad, define_read}
use Rattle.source_text.proofs.forms.definition_form.Goals as goal

pub returns-in-Err-2-clause-value : goal.returns-in-Err-2-clause-value
returns-in-Err-2-clause-value c names known =
    let inner = with_parameters 0 names c.in-Ok.read.0.parameters in
    let parameters : AreParameters c.args.limit names c.in-Ok.read.0.parameters c.add_parameters.new.known.items c.in_ok-others.others =
    subst (λ l. AreParameters c.args.limit names l c.add_parameters.new.known.items c.in_ok-others.others) c.as_slice-2.ensures (c.in_ok-others.ensures names known) in
    let are : AreKnown c.args.limit c.as_slice-3.result.now inner = subst (λ l. AreKnown c.args.limit l inner) (sym c.as_slice-3.ensures.value) parameters.are in
    let read = sequence inner c.args.line Template c.in-Ok.read.1.now in
    let whole : (make : Worth → Form) → form_of make read ≡ Err c.in-Err-2.left = subst (λ r. IsWhole c.args.limit r read) c.in-Err-2.is (c.in_ok-template.ensures inner are) in
    let given : Ok (c.in-Ok.read.0, c.in-Ok.read.1.now) ≡ head c.args.tokens.now = sym (ap seen c.in-Ok.is) ∙ c.in_ok-read.ensures in
    define_bad names c.args.line c.args.tokens.now c.in-Ok.read.1.now c.in-Ok.read.0 c.in-Err-2.left given whole

pub returns-clause-value : goal.returns-clause-value
returns-clause-value c names known =
    let inner = with_parameters 0 names c.in-Ok.read.0.parameters in
    let parameters : AreParameters c.args.limit names c.in-Ok.read.0.parameters c.add_parameters.new.known.items c.in_ok-others.others =
    subst (λ l. AreParameters c.args.limit names l c.add_parameters.new.known.items c.in_ok-others.others) c.as_slice-2.ensures (c.in_ok-others.ensures names known) in
    let are : AreKnown c.args.limit c.as_slice-3.result.now inner = subst (λ l. AreKnown c.args.limit l inner) (sym c.as_slice-3.ensures.value) parameters.are in
    let read = sequence inner c.args.line Template c.in-Ok.read.1.now in
    let whole : IsWhole c.args.limit (Ok c.in-Ok-2.template) read = subst (λ r. IsWhole c.args.limit r read) c.in-Ok-2.is (c.in_ok-template.ensures inner are) in
    let given : Ok (c.in-Ok.read.0, c.in-Ok.read.1.now) ≡ head c.args.tokens.now = sym (ap seen c.in-Ok.is) ∙ c.in_ok-read.ensures in
    let here : AreKnown c.args.limit c.as_slice.result.now names = subst (λ l. AreKnown c.args.limit l names) (sym c.as_slice.ensures.value) known in
    let own : c.name_faults-own.result ≡ known_faults names (c.in-Ok.read.0.name ∷ []) = c.name_faults-own.ensures c.args.limit names here in
    record {
      template = whole.0;
      is = define_read names c.args.line c.args.tokens.now c.in-Ok.read.1.now c.in-Ok.read.0 whole.0 given whole.1;
      held = whole.2;
      known =
          c.and.ensures ∙ ap (λ (f : Faults). both_faults f c.in_ok-others.others) own
          ∙ ap (λ (f : Faults). both_faults (known_faults names (c.in-Ok.read.0.name ∷ [])) f) parameters.told;
    }
