use Rattle.std.proofs.Common.{◌+◌, ◌<◌, length, get_or, arith}
use Rattle.explainer.proofs.OpenLemmas.{reached, closed_more, passes_sure, passes_unsure}
use Rattle.explainer.proofs.open_places.first_closed.Goals as goal
use Rattle.explainer.proofs.open_places.first_closed.Goals.{then-place-end-via-then-place-end, then-place-end-via-else-place-end+then-size-end}

pub returns-then-place-end : goal.returns-then-place-end
returns-then-place-end c =
    let i = c.loop-place.place-index in
    let past : c.args.end < get_or c.args.begun.now i 0 + length c.args.needle.now = elim c.then-place-end.branch [
      | then-place-end-via-then-place-end w ↦ omega (arith, w.if-place-end.true)
      | then-place-end-via-else-place-end+then-size-end w ↦ omega (arith, w.if-place-end.false, w.if-size-end.true)
    ] in
    λ from to place far after before within.
    (reached c.args.needle.now c.args.dna.now c.args.begun.now i from to c.loop-place.invariant c.loop-place-test.true far).out place after (omega arith)

pub returns-in-Sure : goal.returns-in-Sure
returns-in-Sure c = λ from to far.
    let r = reached c.args.needle.now c.args.dna.now c.args.begun.now c.loop-place.place-index from to c.loop-place.invariant c.loop-place-test.true far in
    passes_sure c.args.needle.now c.args.dna.now from (get_or c.args.begun.now c.loop-place.place-index 0) r.after r.out c.in-Sure.ensures

pub returns-in-Unsure : goal.returns-in-Unsure
returns-in-Unsure c = λ from to far.
    let r = reached c.args.needle.now c.args.dna.now c.args.begun.now c.loop-place.place-index from to c.loop-place.invariant c.loop-place-test.true far in
    passes_unsure c.args.needle.now c.args.dna.now from (get_or c.args.begun.now c.loop-place.place-index 0) r.after r.out c.in-Unsure.ensures

pub loop-place-preserved : goal.loop-place-preserved
loop-place-preserved c = closed_more c.args.needle.now c.args.dna.now c.args.begun.now c.loop-place.place-index c.loop-place.invariant c.loop-place-test.true c.in-Out.ensures.0
