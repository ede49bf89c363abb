use Rattle.std.proofs.Common.{arith}
use Rattle.workload.specs.Load.{patches_of}
use Rattle.workload.specs.Numbers.{behind}
use Rattle.workload.proofs.Rows.{all_light, lengths_stay}
use Rattle.workload.proofs.laws.rows_are_light.Goals as goal

pub returns-clause-light : goal.returns-clause-light
unfolding patches_of
returns-clause-light c = λ seed size rounds. all_light rounds size (behind size seed) _ (omega arith)

pub returns-clause-lengths : goal.returns-clause-lengths
unfolding patches_of
returns-clause-lengths c = λ seed size rounds made. lengths_stay rounds made size (behind size seed)
