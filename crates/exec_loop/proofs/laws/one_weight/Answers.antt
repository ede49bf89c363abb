use Rattle.exec_loop.proofs.Weighing as weighing
use Rattle.exec_loop.proofs.laws.one_weight.Goals as goal

pub returns-clause-made : goal.returns-clause-made
returns-clause-made c = weighing.has_weight

pub returns-clause-once : goal.returns-clause-once
returns-clause-once c = weighing.one_weight
