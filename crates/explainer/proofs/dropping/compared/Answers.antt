use Rattle.std.proofs.Common.{◌+◌, get_or, sym, ap, refl, subst, ◌∙◌}
use Rattle.explainer.proofs.OpenLemmas.{KeptTo, kept_one, kept_out, kept_all, out_behind}
use Rattle.explainer.proofs.dropping.compared.Goals as goal
use Rattle.explainer.proofs.dropping.compared.Goals.{in-Some, in-None+in_ok-push-in-None}

pub loop-begin-preserved : goal.loop-begin-preserved
loop-begin-preserved c =
    let s = c.args.needle.now in
    let x = c.args.seen.now in
    let place = c.args.place in
    let begun = c.args.begun.now in
    let i = c.loop-begin.begin-index in
    elim c.match-other_at.branch [
      | in-Some w ↦
          subst (λ l. KeptTo s x place begun (i + 1) l) (sym (ap (λ v. v.items) w.kept-is))
          (kept_out s x place begun i c.loop-begin.kept.items c.loop-begin.invariant c.loop-begin-test.true
          (λ z there. out_behind s x c.rest_from.result.now z (get_or begun i 0) place _ _ c.rest_from.ensures w.in-Some.ensures.inside there refl w.in-Some.ensures.within (λ e. w.in-Some.ensures.differ (sym e))))
      | in-None+in_ok-push-in-None w ↦
          kept_one s x place begun i c.loop-begin.kept.items c.match-other_at.kept.items c.loop-begin.invariant c.loop-begin-test.true
          (ap (λ v. v.items) w.kept-is ∙ w.in_ok-push-in-None.ensures.items)
    ]

pub returns : goal.returns
returns c = kept_all c.args.needle.now c.args.seen.now c.args.place c.args.begun.now c.loop-begin.begin-index c.loop-begin.kept.items c.loop-begin.invariant c.loop-begin-test.false
