use Rattle.std.proofs.Common.{arith, ◌∙◌}
use Rattle.std.proofs.lemmas.Result.{MatchResult-from_err}
use Rattle.std.proofs.lemmas.List.{take_rest, length-drop}
use Rattle.fuun_io.proofs.WrittenLemmas.{PutsFront-take, appended-rest}
use Rattle.fuun_io.proofs.put.put_all.Goals as goal

pub returns-in_err-done-clause-puts : goal.returns-in_err-done-clause-puts
returns-in_err-done-clause-puts g c =
    MatchResult-from_err c.from_residual.result _ _ c.from_residual.ensures.0 (λ _. PutsFront-take _ _ c.loop-done.done _ (c.in_err-done.ensures.none_put ∙ c.loop-done.invariant.1))

pub loop-done-preserved : goal.loop-done-preserved
loop-done-preserved g c =
    (grind (arith, take_rest, length-drop), appended-rest _ _ _ c.loop-done.done _ _ c.loop-done.invariant.1 c.in_ok-done.ensures.put, c.in_ok-done.ensures.cause ∙ c.loop-done.invariant.2)
