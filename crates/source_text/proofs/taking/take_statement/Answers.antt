use Rattle.std.proofs.Common.{◌≡◌, ◌∙◌, ℕ, Err, Result, ap, length, subst, sym}
use Rattle.source_text.specs.declared.forms.FormFound.{FormFound}
use Rattle.source_text.specs.declared.judging.Refusal.{Refusal}
use Rattle.source_text.specs.declared.judging.Refusal.TheVariants.{BadForm}
use Rattle.source_text.specs.Forming.{IsForm, LeavesNames}
use Rattle.source_text.specs.Forms.{form}
use Rattle.source_text.specs.Judging.{State, taken_if, with_statement}
use Rattle.source_text.specs.Keeping.{AreKnown}
use Rattle.source_text.specs.Names.{Names}
use Rattle.source_text.proofs.SequenceLemmas.{ok_fact}
use Rattle.source_text.proofs.TakingLemmas.{form_at, kept_len}
use Rattle.source_text.proofs.taking.take_statement.Goals as goal

pub returns-in_ok-done-in-Ok-clause-value : goal.returns-in_ok-done-in-Ok-clause-value
unfolding with_statement
returns-in_ok-done-in-Ok-clause-value c before is =
    let limit = c.args.reading.now.limit in
    let statement = c.args.statement.now in
    let count = c.len-line.ensures ∙ kept_len limit c.args.reading.now.lines c.args.reading.now.places before.lines is.lines in
    let found = form_at limit before.names c.in_ok-found.field-0 c.len-line.result (length before.lines) c.as_slice-tokens.result.now statement.tokens count c.as_slice-tokens.ensures
    (c.in_ok-found.ensures.value before.names is.known) in
    c.in_ok-done-in-Ok.ensures.value before (form before.names (length before.lines) statement.tokens) is.lines
    (ok_fact (λ (f : FormFound). (names : Names) → AreKnown limit c.args.reading.now.known.items names → LeavesNames f → AreKnown limit c.form.new.known.items names)
    c.in_ok-found.field-0 c.in-Ok.found c.in-Ok.is c.in_ok-found.ensures.left before.names is.known)
    (subst (λ r. IsForm limit before.names r (form before.names (length before.lines) statement.tokens)) c.in-Ok.is found)

pub returns-in-Err-clause-value : goal.returns-in-Err-clause-value
unfolding with_statement
returns-in-Err-clause-value c before is =
    let limit = c.args.reading.now.limit in
    let statement = c.args.statement.now in
    let count = c.len-line.ensures ∙ kept_len limit c.args.reading.now.lines c.args.reading.now.places before.lines is.lines in
    let found = form_at limit before.names c.in_ok-found.field-0 c.len-line.result (length before.lines) c.as_slice-tokens.result.now statement.tokens count c.as_slice-tokens.ensures
    (c.in_ok-found.ensures.value before.names is.known) in
    let left : form before.names (length before.lines) statement.tokens ≡ Err c.in-Err.left = subst (λ r. IsForm limit before.names r (form before.names (length before.lines) statement.tokens)) c.in-Err.is found in
    let make : ℕ → Result State Refusal = λ at. Err (BadForm at) in
    ap (taken_if limit before statement) left ∙ ap make (sym c.stop_place.ensures)
