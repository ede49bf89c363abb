use Rattle.explainer.proofs.CellRuns.{attempt_or_depends, has_run}
use Rattle.explainer.proofs.laws.run_on_cells.Goals as goal

pub returns-clause-attempt : goal.returns-clause-attempt
returns-clause-attempt c = attempt_or_depends

pub returns-clause-run : goal.returns-clause-run
returns-clause-run c = has_run
