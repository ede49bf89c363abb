use Rattle.std.proofs.Common.{◌+◌, sym, ap, subst, ◌∙◌}
use Rattle.explainer.proofs.OpenLemmas.{KeptOn, kept_on_one, kept_on_out, kept_on_all}
use Rattle.explainer.proofs.mixed.without_seen.Goals as goal
use Rattle.explainer.proofs.mixed.without_seen.Goals.{in-Some, in_default+in_ok-push-in_default}

pub loop-begin-preserved : goal.loop-begin-preserved
loop-begin-preserved c = λ to.
    let s = c.args.needle.now in
    let z = c.args.dna.now in
    let begun = c.args.begun.now in
    let i = c.loop-begin.begin-index in
    let kept = c.loop-begin.kept.items in
    let far = c.loop-begin.invariant to in
    elim c.match-other_at.branch [
      | in-Some w ↦
          subst (λ l. KeptOn s z to begun (i + 1) l) (sym (ap (λ v. v.items) w.kept-is))
          (kept_on_out s z to begun i kept far c.loop-begin-test.true (w.differs_at.ensures w.if-differs_at.true))
      | in_default+in_ok-push-in_default w ↦
          kept_on_one s z to begun i kept c.match-other_at.kept.items far c.loop-begin-test.true
          (ap (λ v. v.items) w.kept-is ∙ w.in_ok-push-in_default.ensures.items)
    ]

pub returns : goal.returns
returns c = λ to.
    kept_on_all c.args.needle.now c.args.dna.now to c.args.begun.now c.loop-begin.begin-index c.loop-begin.kept.items (c.loop-begin.invariant to) c.loop-begin-test.false
