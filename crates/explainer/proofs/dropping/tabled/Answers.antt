use Rattle.std.proofs.Common.{◌≡◌, ◌+◌, ◌-◌, ◌<◌, ◌≤◌, length, get_or, arith, sym, ap, subst, ◌∙◌}
use Rattle.explainer.specs.Repeats.{AreFronts}
use Rattle.explainer.proofs.OpenLemmas.{KeptTo, kept_one, kept_out, kept_all, out_tabled}
use Rattle.explainer.proofs.dropping.tabled.Goals as goal
use Rattle.explainer.proofs.dropping.tabled.Goals.{in-Some, in-None+in_ok-push-in-None}

pub loop-begin-preserved : goal.loop-begin-preserved
loop-begin-preserved c =
    let s = c.args.needle.now in
    let x = c.args.seen.now in
    let place = c.args.place in
    let begun = c.args.begun.now in
    let i = c.loop-begin.begin-index in
    let rest = c.rest_from-rest.result.now in
    let count = c.min-count.result in
    let fits : count ≤ length rest = omega (arith, c.min-count.ensures) in
    let fronts : AreFronts c.in_ok-row.row.items c.in_ok-fronts.fronts.items = subst (λ l. AreFronts l c.in_ok-fronts.fronts.items) c.as_slice.ensures.value c.in_ok-fronts.ensures in
    elim c.match-known_other.branch [
      | in-Some w ↦
          let table : c.as_slice-in-loop-begin.result.now ≡ c.in_ok-fronts.fronts.items = c.as_slice-in-loop-begin.ensures.value in
          subst (λ l. KeptTo s x place begun (i + 1) l) (sym (ap (λ v. v.items) w.kept-is))
          (kept_out s x place begun i c.loop-begin.kept.items c.loop-begin.invariant c.loop-begin-test.true
          (λ z there. out_tabled s x rest c.in_ok-row.row.items c.in_ok-fronts.fronts.items z (get_or begun i 0) c.in-Some-Some.last.now place w.in-Some.field-0 count c.rest_from-rest.ensures c.in_ok-row.ensures fits fronts
          w.in-Some.ensures.last (w.in-Some.ensures.same ∙ ap (λ l. get_or l (length x + (c.in-Some-Some.last.now - get_or begun i 0)) 0) table) w.in-Some.ensures.inside
          (subst (λ l. length x + (c.in-Some-Some.last.now - get_or begun i 0) + w.in-Some.field-0 < length l) table w.in-Some.ensures.within) there))
      | in-None+in_ok-push-in-None w ↦
          kept_one s x place begun i c.loop-begin.kept.items c.match-known_other.kept.items c.loop-begin.invariant c.loop-begin-test.true
          (ap (λ v. v.items) w.kept-is ∙ w.in_ok-push-in-None.ensures.items)
    ]

pub returns : goal.returns
returns c = kept_all c.args.needle.now c.args.seen.now c.args.place c.args.begun.now c.loop-begin.begin-index c.loop-begin.kept.items c.loop-begin.invariant c.loop-begin-test.false
