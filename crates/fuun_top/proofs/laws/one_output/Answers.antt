use Rattle.fuun_top.proofs.OneOutput as outputs
use Rattle.fuun_top.proofs.laws.one_output.Goals as goal

pub returns-clause-made : goal.returns-clause-made
returns-clause-made c = outputs.has_output

pub returns-clause-once : goal.returns-clause-once
returns-clause-once c = outputs.one_output
