use Rattle.std.proofs.Common.{◌≡◌, ℕ, ◌+◌, ◌-◌, ◌<◌, ◌≤◌, List, ◌++◌, Some, length, take, slice_range, arith, ap, ◌∙◌}
use Rattle.std.proofs.lemmas.List.{take_all}
use Rattle.fuun_base.specs.DnaFile.{bases, first_other}
use Rattle.fuun_base.proofs.Ranges.{length-range}
use Rattle.fuun_base.proofs.Reading.{bases_on, clean_more, stops_at, first_other_at, no_other, length-bases_le}
use Rattle.fuun_base.proofs.dna_file.read_dna.Goals as goal

pub returns-then-count-block-clause-other : goal.returns-then-count-block-clause-other
returns-then-count-block-clause-other c place e =
    let bytes : List ℕ = c.args.bytes.now in
    let done = c.loop-done.done in
    let count = c.in_ok-count.count in
    let end = c.min.result in
    let front = c.in_ok-count.ensures.front in
    let long : length (slice_range bytes done end) ≡ end - done = length-range bytes done end (omega arith) in
    let short : done + count < end = omega (arith, c.if-count-block.true) in
    let here : first_other bytes ≡ Some (done + count) =
    first_other_at bytes (done + count) (omega arith)
    (clean_more bytes done end count (omega arith) c.loop-done.invariant.clean front.clean)
    (stops_at bytes done end count short (front.stops (omega arith))) in
    let same : done + count ≡ place = cc in
    here ∙ ap Some same

pub loop-done-preserved : goal.loop-done-preserved
loop-done-preserved c =
    let bytes : List ℕ = c.args.bytes.now in
    let done = c.loop-done.done in
    let count = c.in_ok-count.count in
    let end = c.min.result in
    let front = c.in_ok-count.ensures.front in
    let long : length (slice_range bytes done end) ≡ end - done = length-range bytes done end (omega arith) in
    let within : done + count ≤ end = omega (arith, front.within) in
    record {
      within = omega arith;
      read = c.in_ok-count.ensures.added ∙ ap (λ d. d ++ bases (take count (slice_range bytes done end))) c.loop-done.invariant.read ∙ bases_on bytes done end count within;
      clean = clean_more bytes done end count within c.loop-done.invariant.clean front.clean;
    }

pub returns-clause-most : goal.returns-clause-most
returns-clause-most c =
    let whole : c.in_ok-from_vec.field-0 ≡ bases (take c.loop-done.done c.args.bytes.now) = c.in_ok-from_vec.ensures ∙ c.loop-done.invariant.read in
    omega (arith, ap length whole, length-bases_le (take c.loop-done.done c.args.bytes.now), ap length (take_all c.loop-done.done c.args.bytes.now c.loop-done-test.false))

pub returns-clause-no_other : goal.returns-clause-no_other
returns-clause-no_other c = no_other c.args.bytes.now c.loop-done.done c.loop-done-test.false c.loop-done.invariant.clean
