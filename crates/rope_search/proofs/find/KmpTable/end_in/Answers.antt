use Rattle.std.proofs.Common.{◌≡◌, ◌+◌, ◌-◌, ◌≤◌, None, length, drop, slice_range, arith, subst, ◌∙◌, length-drop}
use Rattle.std.proofs.lemmas.List.{length-take-le}
use Rattle.rope_search.specs.Sought.{Goes, Searched}
use Rattle.rope_search.proofs.Going.{goes_on}
use Rattle.rope_search.proofs.find.KmpTable.end_in.Goals as goal

pub returns-in-Some : goal.returns-in-Some
returns-in-Some c =
    let s = c.args.self.now in
    let d = c.args.bases.now in
    let near = c.passed-at.result in
    let stop = c.min-stop.result in
    let goes : Goes s d c.loop-at.at c.loop-at.found near c.loop-at.found = subst (λ e. Goes e d c.loop-at.at c.loop-at.found near c.loop-at.found) (c.as_slice.ensures.value ∙ c.self.view_is) c.passed-at.ensures.goes in
    let most : near ≤ length d = c.passed-at.ensures.most in
    let size : length (slice_range d near stop) ≡ stop - near = length-take-le (stop - near) (drop near d) (omega (arith, length-drop near d)) in
    let walked : c.in-Some.end ≤ length (slice_range d near stop) × Goes s (slice_range d near stop) 0 c.loop-at.found c.in-Some.end (length s) = c.in-Some.ensures in
    (omega (arith, walked.0), goes_on s d 0 c.args.found.now c.loop-at.at c.loop-at.found near stop c.in-Some.end (length s) (omega arith) (omega arith) c.loop-at.invariant.goes goes walked.1)

pub loop-at-preserved : goal.loop-at-preserved
loop-at-preserved c =
    let s = c.args.self.now in
    let d = c.args.bases.now in
    let near = c.passed-at.result in
    let stop = c.min-stop.result in
    let goes : Goes s d c.loop-at.at c.loop-at.found near c.loop-at.found = subst (λ e. Goes e d c.loop-at.at c.loop-at.found near c.loop-at.found) (c.as_slice.ensures.value ∙ c.self.view_is) c.passed-at.ensures.goes in
    let most : near ≤ length d = c.passed-at.ensures.most in
    let part = slice_range d near stop in
    let size : length part ≡ stop - near = length-take-le (stop - near) (drop near d) (omega (arith, length-drop near d)) in
    let walked : Searched s part 0 c.loop-at.found None c.walk.new.found = c.in_default.ensures in
    let end : near + length part ≡ stop = omega arith in
    record {
      short = walked.0;
      most = omega arith;
      goes = subst (λ n. Goes s d 0 c.args.found.now n c.walk.new.found) end (goes_on s d 0 c.args.found.now c.loop-at.at c.loop-at.found near stop (length part) c.walk.new.found (omega arith) (omega arith) c.loop-at.invariant.goes goes walked.1);
    }

pub returns : goal.returns
returns c =
    let s = c.args.self.now in
    let d = c.args.bases.now in
    let end : c.loop-at.at ≡ length d = omega arith in
    (c.loop-at.invariant.short, subst (λ n. Goes s d 0 c.args.found.now n c.loop-at.found) end c.loop-at.invariant.goes)
