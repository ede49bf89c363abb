use Rattle.explainer.proofs.OneRun.{one_run}
use Rattle.explainer.proofs.laws.one_run_on_cells.Goals as goal

pub returns : goal.returns
returns c = one_run
