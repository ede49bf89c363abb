use Rattle.std.proofs.Common.{◌≡◌, arith, ap, ◌∙◌, get_or}
use Rattle.fuun_base.specs.declared.letters.Base.TheVariants.{I}
use Rattle.fuun_base.specs.Tally.{tally_of, tally_of_one}
use Rattle.fuun_base.proofs.Counting.{front_total, is_c, is_f, is_p, same_tally, tally_of_more, tally_of_whole, tally_total-one, tally_total-tally_of}
use Rattle.fuun_base.proofs.tally.Tally.of_few.Goals as goal

pub overflow_add-c : goal.overflow_add-c
overflow_add-c c =
    let d = c.args.bases.now in
    let i = c.loop-base.base-index in
    let one : c.from-c.result ≡ (tally_of_one (get_or d i I)).c = is_c (get_or d i I) c.eq.result c.from-c.result c.eq.ensures c.from-c.ensures in
    omega (arith, front_total d i (omega arith), tally_total-one (get_or d i I), one, c.loop-base.invariant.c)

pub overflow_add-f : goal.overflow_add-f
overflow_add-f c =
    let d = c.args.bases.now in
    let i = c.loop-base.base-index in
    let one : c.from-f.result ≡ (tally_of_one (get_or d i I)).f = is_f (get_or d i I) c.eq-in-loop-base.result c.from-f.result c.eq-in-loop-base.ensures c.from-f.ensures in
    omega (arith, front_total d i (omega arith), tally_total-one (get_or d i I), one, c.loop-base.invariant.f)

pub overflow_add-p : goal.overflow_add-p
overflow_add-p c =
    let d = c.args.bases.now in
    let i = c.loop-base.base-index in
    let one : c.from-p.result ≡ (tally_of_one (get_or d i I)).p = is_p (get_or d i I) c.eq-in-loop-base-2.result c.from-p.result c.eq-in-loop-base-2.ensures c.from-p.ensures in
    omega (arith, front_total d i (omega arith), tally_total-one (get_or d i I), one, c.loop-base.invariant.p)

pub loop-base-preserved : goal.loop-base-preserved
loop-base-preserved c =
    let d = c.args.bases.now in
    let i = c.loop-base.base-index in
    let more = tally_of_more d i I c.loop-base-test.true in
    record {
      c = omega (arith, ap (λ t. t.c) more, is_c (get_or d i I) c.eq.result c.from-c.result c.eq.ensures c.from-c.ensures, c.loop-base.invariant.c);
      f = omega (arith, ap (λ t. t.f) more, is_f (get_or d i I) c.eq-in-loop-base.result c.from-f.result c.eq-in-loop-base.ensures c.from-f.ensures, c.loop-base.invariant.f);
      p = omega (arith, ap (λ t. t.p) more, is_p (get_or d i I) c.eq-in-loop-base-2.result c.from-p.result c.eq-in-loop-base-2.ensures c.from-p.ensures, c.loop-base.invariant.p);
    }

pub overflow_sub-result : goal.overflow_sub-result
overflow_sub-result c =
    omega (arith, front_total c.args.bases.now c.loop-base.base-index (omega arith), c.loop-base.invariant.c, c.loop-base.invariant.f, c.loop-base.invariant.p, c.from-c-2.ensures, c.from-f-2.ensures, c.from-p-2.ensures)

pub overflow_sub-result-2 : goal.overflow_sub-result-2
overflow_sub-result-2 c =
    omega (arith, front_total c.args.bases.now c.loop-base.base-index (omega arith), c.loop-base.invariant.c, c.loop-base.invariant.f, c.loop-base.invariant.p, c.from-c-2.ensures, c.from-f-2.ensures, c.from-p-2.ensures)

pub overflow_sub-result-3 : goal.overflow_sub-result-3
overflow_sub-result-3 c =
    omega (arith, front_total c.args.bases.now c.loop-base.base-index (omega arith), c.loop-base.invariant.c, c.loop-base.invariant.f, c.loop-base.invariant.p, c.from-c-2.ensures, c.from-f-2.ensures, c.from-p-2.ensures)

pub returns : goal.returns
returns c =
    let d = c.args.bases.now in
    let whole = tally_of_whole d c.loop-base.base-index c.loop-base-test.false in
    let same_c : c.from-c-2.result ≡ (tally_of d).c = c.from-c-2.ensures ∙ c.loop-base.invariant.c ∙ ap (λ t. t.c) whole in
    let same_f : c.from-f-2.result ≡ (tally_of d).f = c.from-f-2.ensures ∙ c.loop-base.invariant.f ∙ ap (λ t. t.f) whole in
    let same_p : c.from-p-2.result ≡ (tally_of d).p = c.from-p-2.ensures ∙ c.loop-base.invariant.p ∙ ap (λ t. t.p) whole in
    same_tally _ (tally_of d) (omega (arith, tally_total-tally_of d)) same_c same_f same_p
