use Rattle.std.proofs.Common.{◌∷◌, ◌++◌, ◌∙◌, [], Ok, ap, subst}
use Rattle.source_items.specs.declared.lines.Line.TheVariants.{Plain}
use Rattle.source_text.specs.Judging.{first_at, placed, state}
use Rattle.source_text.specs.Pieces.{bases_of}
use Rattle.source_text.specs.Taking.{IsReading, refusal_of}
use Rattle.source_text.proofs.TakingLemmas.{judged_none}
use Rattle.source_text.proofs.taking.take_data.Goals as goal

pub returns-clause-value : goal.returns-clause-value
returns-clause-value c before x is worth =
    let line = Plain (bases_of x.pieces) in
    let now = state before.names (before.lines ++ placed line (first_at c.args.tokens.now) ∷ []) in (
      now,
      judged_none x.faults (Ok now) (c.in_default.ensures ∙ ap refusal_of worth.faults),
      subst (λ at. IsReading c.add_line.new.reading (state before.names (before.lines ++ placed line at ∷ []))) c.first_at.ensures
          (c.in_ok-add_line.ensures.value before line is (c.in_ok-line.ensures x.pieces worth.held)),
    )
