use Rattle.std.proofs.Common.{◌∙◌}
use Rattle.std.proofs.lemmas.Result.{MatchResult-from_err}
use Rattle.match_text.specs.Groups.{moved_back}
use Rattle.match_text.proofs.WayLemmas.{groups_more, groups_part}
use Rattle.match_text.proofs.groups.put_groups.Goals as goal

pub returns-in_err-put_group-clause-puts : goal.returns-in_err-put_group-clause-puts
returns-in_err-put_group-clause-puts g c =
    MatchResult-from_err c.from_residual.result _ _ c.from_residual.ensures.0
    (λ _. groups_part (moved_back c.args.from) c.args.groups.now c.loop-number.number _ _ _ _ c.loop-number-test.true c.loop-number.invariant.put c.in_err-put_group.ensures.puts)

pub loop-number-preserved : goal.loop-number-preserved
loop-number-preserved g c = record {
  put = groups_more (moved_back c.args.from) c.args.groups.now c.loop-number.number _ _ _ _ c.loop-number-test.true c.loop-number.invariant.put c.in_ok-put_group.ensures.puts;
  faults = c.in_ok-put_group.ensures.cause ∙ c.loop-number.invariant.faults;
}
