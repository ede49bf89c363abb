use Rattle.explainer.proofs.EveryTarget.{found_for_every_target, too_long_for_every_target}
use Rattle.explainer.proofs.laws.explanation_for_every_target.Goals as goal

pub returns-clause-found : goal.returns-clause-found
returns-clause-found c = found_for_every_target

pub returns-clause-too_long : goal.returns-clause-too_long
returns-clause-too_long c = too_long_for_every_target
