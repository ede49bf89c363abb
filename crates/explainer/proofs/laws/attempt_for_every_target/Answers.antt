use Rattle.explainer.proofs.FilledAttempts.{attempt_is_filled}
use Rattle.explainer.proofs.laws.attempt_for_every_target.Goals as goal

pub returns : goal.returns
returns c = attempt_is_filled
