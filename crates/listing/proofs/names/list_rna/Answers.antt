use Rattle.std.proofs.Common.{◌∙◌}
use Rattle.std.proofs.lemmas.Result.{MatchResult-from_err}
use Rattle.listing.specs.Names.{name_line}
use Rattle.listing.proofs.PutLemmas.{items_more, items_part}
use Rattle.listing.proofs.names.list_rna.Goals as goal

pub returns-in_err-put_name-clause-puts : goal.returns-in_err-put_name-clause-puts
returns-in_err-put_name-clause-puts g c =
    MatchResult-from_err c.from_residual.result _ _ c.from_residual.ensures.0
    (λ _. items_part (name_line c.args.profile) c.as_slice-command-items.result.now c.args.commands.now c.loop-command.command-index c.command-item.result _ _ _ c.as_slice-command-items.ensures c.loop-command-test.true c.command-item.is c.loop-command.invariant.put c.in_err-put_name.ensures.puts)

pub loop-command-preserved : goal.loop-command-preserved
loop-command-preserved g c = record {
  put = items_more (name_line c.args.profile) c.as_slice-command-items.result.now c.loop-command.command-index c.command-item.result _ _ _ c.loop-command-test.true c.command-item.is c.loop-command.invariant.put c.in_ok-put_name.ensures.puts;
  faults = c.in_ok-put_name.ensures.cause ∙ c.loop-command.invariant.faults;
}
