use Rattle.std.proofs.Common.{Ok, subst, sym}
use Rattle.source_text.specs.Forming.{IsForm, LeavesNames}
use Rattle.source_text.specs.Judging.{taken_if}
use Rattle.source_text.specs.Taking.{IsTaken}
use Rattle.source_text.proofs.taking.take_form.Goals as goal

pub returns-in_ok-done-in-Pair-clause-value : goal.returns-in_ok-done-in-Pair-clause-value
returns-in_ok-done-in-Pair-clause-value c before form kept known is =
    let worth = subst (λ f. IsForm c.args.reading.now.limit before.names (Ok f) form) c.in-Pair.is is in
    subst (λ f. IsTaken c.take_pair.new.reading c.in_ok-done-in-Pair.done (taken_if c.args.reading.now.limit before c.args.statement.now f)) (sym worth.is)
    (c.in_ok-done-in-Pair.ensures.value before c.args.statement.now.tokens worth.pattern worth.template (record { known = known (subst LeavesNames (sym c.in-Pair.is) tt); lines = kept }) worth.first worth.second)

pub returns-in_ok-done-in-Define-clause-value : goal.returns-in_ok-done-in-Define-clause-value
returns-in_ok-done-in-Define-clause-value c before form kept known is =
    let worth = subst (λ f. IsForm c.args.reading.now.limit before.names (Ok f) form) c.in-Define.is is in
    subst (λ f. IsTaken c.take_define.new.reading c.in_ok-done-in-Define.done (taken_if c.args.reading.now.limit before c.args.statement.now f)) (sym worth.is)
    (c.in_ok-done-in-Define.ensures.value before c.args.statement.now.tokens worth.template kept (λ none. known (subst LeavesNames (sym c.in-Define.is) none)) worth.held worth.known)

pub returns-in-Mark-clause-value : goal.returns-in-Mark-clause-value
returns-in-Mark-clause-value c before form kept known is =
    let same = subst (λ f. IsForm c.args.reading.now.limit before.names (Ok f) form) c.in-Mark.is is in
    subst (λ f. IsTaken c.args.reading.now c.take_mark.result (taken_if c.args.reading.now.limit before c.args.statement.now f)) (sym same)
    (c.take_mark.ensures before c.args.statement.now.tokens (record { known = known (subst LeavesNames (sym c.in-Mark.is) tt); lines = kept }))
