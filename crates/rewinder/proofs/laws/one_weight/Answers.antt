use Rattle.rewinder.proofs.WeightLemmas.{one_script_weight, script_weighs}
use Rattle.rewinder.proofs.laws.one_weight.Goals as goal

pub returns-clause-made : goal.returns-clause-made
returns-clause-made c = script_weighs

pub returns-clause-once : goal.returns-clause-once
returns-clause-once c = one_script_weight
