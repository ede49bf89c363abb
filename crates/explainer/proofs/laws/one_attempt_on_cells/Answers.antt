use Rattle.explainer.proofs.OneAttempt.{one_attempt, attempts_do_not_depend}
use Rattle.explainer.proofs.laws.one_attempt_on_cells.Goals as goal

pub returns-clause-once : goal.returns-clause-once
returns-clause-once c = one_attempt

pub returns-clause-apart : goal.returns-clause-apart
returns-clause-apart c = attempts_do_not_depend
