use Rattle.std.proofs.Common.{◌≡◌, ℕ, ◌-◌, ◌<◌, length, get_or, arith, sym, subst, ◌∙◌}
use Rattle.explainer.specs.Repeats.{IsSame, IsFront}
use Rattle.explainer.proofs.RepeatLemmas.{fronts_more, same_within, same_none, get_any}
use Rattle.explainer.proofs.repeats.same_fronts.Goals as goal
use Rattle.explainer.proofs.repeats.same_fronts.Goals.{then-at-end, else-at-end, then-at-gt0+then-at-same, else-at-gt0}

pub lengthened-same-requires-clause-same : goal.lengthened-same-requires-clause-same
lengthened-same-requires-clause-same c =
    let s = c.args.list.now in
    let fronts = c.loop-at.fronts.items in
    let start = c.loop-at.start in
    let at = c.loop-at.at in
    elim c.if-at-end.branch [
      | then-at-end w ↦
          let before : at < c.loop-at.end = w.if-at-end.true in
          let some : 0 < start = c.loop-at.invariant.some before in
          let front : ℕ = get_or fronts (at - start) 0 in
          let get : w.index.result.now ≡ front = w.index.ensures ∙ get_any fronts (at - start) w.index.result.now 0 (omega arith) in
          let copied : IsFront s (at - start) front = c.loop-at.invariant.fronts (at - start) (omega arith) in
          same_within s start c.loop-at.end at front c.if-at-end.known c.loop-at.invariant.same c.loop-at.invariant.start before copied.alike (omega (arith, get, w.min-known.ensures, w.known-is)) (omega (arith, w.min-known.ensures, w.known-is))
      | else-at-end w ↦ subst (IsSame s at) (sym w.known-is) (same_none s at)
    ]

pub loop-at-preserved : goal.loop-at-preserved
loop-at-preserved c =
    let s = c.args.list.now in
    let at = c.loop-at.at in
    let same = c.lengthened-same.result in
    let count : length c.loop-at.fronts.items ≡ at = omega arith in
    let here : IsFront s at same = record { within = c.lengthened-same.ensures.within; alike = c.lengthened-same.ensures.same; other = c.lengthened-same.ensures.other } in
    record {
      count = omega (arith, c.in_ok-push.ensures.len);
      fronts = fronts_more s c.loop-at.fronts.items c.push.new.self.items same c.loop-at.invariant.fronts c.in_ok-push.ensures.items (subst (λ n. IsFront s n same) (sym count) here);
      start = elim c.if-at-gt0.branch [ then-at-gt0+then-at-same w ↦ omega arith | else-at-gt0 w ↦ omega arith ];
      some = λ before. elim c.if-at-gt0.branch [ then-at-gt0+then-at-same w ↦ omega arith | else-at-gt0 w ↦ omega (arith, c.loop-at.invariant.some) ];
      end = elim c.if-at-gt0.branch [ then-at-gt0+then-at-same w ↦ omega arith | else-at-gt0 w ↦ omega arith ];
      same = elim c.if-at-gt0.branch [
        | then-at-gt0+then-at-same w ↦
            let size : same ≡ c.if-at-gt0.end - c.if-at-gt0.start = omega arith in
            subst (λ n. IsSame s n (c.if-at-gt0.end - c.if-at-gt0.start)) (sym w.start-is) (subst (IsSame s at) size here.alike)
        | else-at-gt0 w ↦
            subst (λ n. IsSame s n (c.if-at-gt0.end - c.if-at-gt0.start)) (sym w.start-is) (subst (λ n. IsSame s c.loop-at.start (n - c.if-at-gt0.start)) (sym w.end-is) (subst (λ n. IsSame s c.loop-at.start (c.loop-at.end - n)) (sym w.start-is) c.loop-at.invariant.same))
      ];
    }
