use Rattle.std.proofs.Common.{◌≤◌, arith, ◌∙◌}
use Rattle.std.proofs.lemmas.Result.{MatchResult-from_err}
use Rattle.ppm_out.proofs.PpmLemmas.{packed_front, put_front, put_more}
use Rattle.ppm_out.proofs.put_pixels.Goals as goal

pub returns-in_err-put_all-clause-puts : goal.returns-in_err-put_all-clause-puts
returns-in_err-put_all-clause-puts g c =
    let order : c.loop-start.start ≤ c.min-stop.result = omega arith in
    MatchResult-from_err c.from_residual.result _ _ c.from_residual.ensures.0
    (λ _. put_front _ _ _ c.args.pixels.now c.loop-start.start c.min-stop.result _ order (packed_front _ _ _ _ c.pack-len.ensures.len c.pack-len.ensures.packed) c.loop-start.invariant.1 c.in_err-put_all.ensures.puts)

pub loop-start-preserved : goal.loop-start-preserved
loop-start-preserved g c =
    let order : c.loop-start.start ≤ c.min-stop.result = omega arith in (
      omega arith,
      put_more _ _ _ c.args.pixels.now c.loop-start.start c.min-stop.result _ order (packed_front _ _ _ _ c.pack-len.ensures.len c.pack-len.ensures.packed) c.loop-start.invariant.1 c.in_ok-put_all.ensures.puts,
      c.in_ok-put_all.ensures.cause ∙ c.loop-start.invariant.2,
    )
