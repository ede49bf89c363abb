use Rattle.std.proofs.Common.{◌∙◌}
use Rattle.std.proofs.lemmas.Result.{MatchResult-from_err}
use Rattle.explainer.specs.Lines.{rna_line}
use Rattle.explainer.proofs.ByParts.{lines_more, lines_part}
use Rattle.explainer.proofs.writing.put_rna.Goals as goal

pub returns-in_err-put_command-clause-puts : goal.returns-in_err-put_command-clause-puts
returns-in_err-put_command-clause-puts g c =
    MatchResult-from_err c.from_residual.result _ _ c.from_residual.ensures.0
    (λ _. lines_part rna_line c.args.rna.now c.loop-command.command-index c.command-item.result _ _ _ c.loop-command-test.true c.command-item.is c.loop-command.invariant.put c.in_err-put_command.ensures.puts)

pub loop-command-preserved : goal.loop-command-preserved
loop-command-preserved g c = record {
  put = lines_more rna_line c.args.rna.now c.loop-command.command-index c.command-item.result _ _ _ c.loop-command-test.true c.command-item.is c.loop-command.invariant.put c.in_ok-put_command.ensures.puts;
  faults = c.in_ok-put_command.ensures.cause ∙ c.loop-command.invariant.faults;
}
