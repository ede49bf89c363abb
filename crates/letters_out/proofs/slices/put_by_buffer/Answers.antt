use Rattle.std.proofs.Common.{arith, map, ◌∙◌}
use Rattle.std.proofs.lemmas.Result.{MatchResult-from_err}
use Rattle.fuun_base.specs.Letter.{letter_of}
use Rattle.letters_out.proofs.PieceLemmas.{put_more, put_front}
use Rattle.letters_out.proofs.slices.put_by_buffer.Goals as goal

pub returns-in_err-put_all-clause-puts : goal.returns-in_err-put_all-clause-puts
returns-in_err-put_all-clause-puts g c =
    MatchResult-from_err c.from_residual.result _ _ c.from_residual.ensures.0
    (λ _. put_front _ _ _ (map letter_of c.args.bases.now) _ c.loop-place.place c.spell_from-count.result c.spell_from-count.ensures.letters c.loop-place.invariant.put c.in_err-put_all.ensures.puts)

pub loop-place-preserved : goal.loop-place-preserved
loop-place-preserved g c = record {
  within = omega (arith, c.spell_from-count.ensures.number, c.loop-place.invariant.within);
  put = put_more _ _ _ (map letter_of c.args.bases.now) _ c.loop-place.place c.spell_from-count.result c.spell_from-count.ensures.letters c.loop-place.invariant.put c.in_ok-put_all.ensures.puts;
  faults = c.in_ok-put_all.ensures.cause ∙ c.loop-place.invariant.faults;
  same = c.spell_from-count.ensures.same ∙ c.loop-place.invariant.same;
}
