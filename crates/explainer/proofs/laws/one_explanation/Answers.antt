use Rattle.explainer.proofs.Explanations.{has_explanation, explanation_is_one}
use Rattle.explainer.proofs.laws.one_explanation.Goals as goal

pub returns-clause-made : goal.returns-clause-made
returns-clause-made c = has_explanation

pub returns-clause-once : goal.returns-clause-once
returns-clause-once c = explanation_is_one
