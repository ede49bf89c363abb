use Rattle.std.proofs.Common.{◌≡◌, ◌∷◌, ◌++◌, ◌∙◌, [], None, ap, sym}
use Rattle.source_text.specs.Judging.{no_code_within, pair_by, pair_line, placed, state}
use Rattle.source_text.specs.Reading.{both_faults}
use Rattle.source_text.specs.Taking.{refusal_of}
use Rattle.source_text.proofs.TakingLemmas.{judged_none}
use Rattle.source_text.proofs.taking.take_pair.Goals as goal

pub returns-clause-value : goal.returns-clause-value
returns-clause-value c before tokens x y is first second =
    let arrow = c.args.pair.arrow in
    let serve : None ≡ refusal_of (both_faults x.faults y.faults) = c.in_default.ensures
    ∙ ap refusal_of (c.and.ensures ∙ ap (λ f. both_faults f c.args.pair.template.faults) first.faults ∙ ap (both_faults x.faults) second.faults) in
    let some : no_code_within c.args.reading.now.limit arrow x.pieces ≡ None = sym (c.in_default-no_code_within.ensures x.pieces first.held) in (
      state before.names (before.lines ++ placed (pair_line x y) arrow ∷ []),
      judged_none (both_faults x.faults y.faults) (pair_by before x arrow y (no_code_within c.args.reading.now.limit arrow x.pieces)) serve ∙ ap (pair_by before x arrow y) some,
      c.in_ok-add_line.ensures.value before (pair_line x y) is (c.in_ok-line.ensures x.pieces y.pieces first.held second.held),
    )
