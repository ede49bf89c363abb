use Rattle.explainer.proofs.FilledRuns.{run_is_filled}
use Rattle.explainer.proofs.laws.run_for_every_target.Goals as goal

pub returns : goal.returns
returns c = run_is_filled
