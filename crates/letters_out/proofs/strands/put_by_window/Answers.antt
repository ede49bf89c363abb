use Rattle.std.proofs.Common.{◌+◌, ◌-◌, ◌≤◌, arith, map, take, ◌∙◌}
use Rattle.std.specs.Prelude.{slice_range}
use Rattle.std.proofs.lemmas.Result.{MatchResult-from_err}
use Rattle.fuun_base.specs.Letter.{letter_of}
use Rattle.letters_out.proofs.PieceLemmas.{put_more, put_front, window_letters}
use Rattle.letters_out.proofs.strands.put_by_window.Goals as goal

pub returns-in_err-put_by_buffer-clause-puts : goal.returns-in_err-put_by_buffer-clause-puts
returns-in_err-put_by_buffer-clause-puts g c =
    let dna = g.T.Strand.bases c.args.dna.now in
    let count = c.copy_some-count.result in
    let within : c.loop-done.done + count ≤ c.args.hi - c.args.lo = omega (arith, c.copy_some-count.ensures.number, c.loop-done-test.true, c.saturating_sub-len.ensures) in
    let is = window_letters count c.loop-done.done c.args.lo c.args.hi dna c.copy_some-count.new.window within c.copy_some-count.ensures.copied in
    MatchResult-from_err c.from_residual.result _ _ c.from_residual.ensures.0
    (λ _. put_front _ _ _ (map letter_of (slice_range dna c.args.lo c.args.hi)) (map letter_of (take count c.copy_some-count.new.window)) c.loop-done.done count is c.loop-done.invariant.put c.in_err-put_by_buffer.ensures.puts)

pub loop-done-preserved : goal.loop-done-preserved
loop-done-preserved g c =
    let dna = g.T.Strand.bases c.args.dna.now in
    let count = c.copy_some-count.result in
    let within : c.loop-done.done + count ≤ c.args.hi - c.args.lo = omega (arith, c.copy_some-count.ensures.number, c.loop-done-test.true, c.saturating_sub-len.ensures) in
    let is = window_letters count c.loop-done.done c.args.lo c.args.hi dna c.copy_some-count.new.window within c.copy_some-count.ensures.copied in
    record {
      within = omega (arith, within, c.saturating_sub-len.ensures);
      put = put_more _ _ _ (map letter_of (slice_range dna c.args.lo c.args.hi)) _ c.loop-done.done count is c.loop-done.invariant.put c.in_ok-put_by_buffer.ensures.puts;
      faults = c.in_ok-put_by_buffer.ensures.cause ∙ c.loop-done.invariant.faults;
      window = c.copy_some-count.ensures.same ∙ c.loop-done.invariant.window;
      piece = c.in_ok-put_by_buffer.ensures.same ∙ c.loop-done.invariant.piece;
    }
