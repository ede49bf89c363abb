use Rattle.std.proofs.Common.{◌≡◌, ◌+◌, ◌<◌, length, get_or, arith, sym, ap, subst, ◌∙◌}
use Rattle.explainer.specs.Open.{GoesOn}
use Rattle.explainer.proofs.OpenLemmas.{goes_more, goes_out, out_repeat, out_once_here}
use Rattle.explainer.proofs.open_places.open_repeats.Goals as goal
use Rattle.explainer.proofs.open_places.open_repeats.Goals.{then-same-fronts+in_ok-push, else-same-fronts}

pub loop-at-preserved : goal.loop-at-preserved
loop-at-preserved c = λ s z far less there.
    let fronts = c.args.fronts.now in
    let begun = c.args.begun.now.items in
    let first = c.args.first in
    let at = c.loop-at.at in
    let number : first + at + 1 ≡ first + (at + 1) = omega arith in
    let goes : GoesOn s z begun first c.loop-at.begun.items (first + at) = c.loop-at.invariant s z far less there in
    elim c.if-same-fronts.branch [
      | then-same-fronts+in_ok-push w ↦
          goes_more s z begun first c.loop-at.begun.items c.if-same-fronts.begun.items (first + at) (first + (at + 1)) goes (ap (λ v. v.items) w.begun-is ∙ w.in_ok-push.ensures.items) number
      | else-same-fronts w ↦
          let inside : at < length fronts = c.loop-at-test.true in
          let short : at + get_or fronts at 0 < length fronts = omega (arith, w.if-same-fronts.false) in
          subst (λ l. GoesOn s z begun first l (first + (at + 1))) (sym (ap (λ v. v.items) w.begun-is))
          (subst (GoesOn s z begun first c.loop-at.begun.items) number
          (goes_out s z begun first c.loop-at.begun.items (first + at) (first + at + 1) goes (omega arith) (out_once_here s z (first + at) (out_repeat s fronts z first (length fronts) at far inside less there short))))
    ]
