use Rattle.workload.specs.Load.{patches_of}
use Rattle.workload.specs.Numbers.{behind}
use Rattle.workload.proofs.Rows.{all_fit}
use Rattle.workload.proofs.laws.rows_fit.Goals as goal

pub returns : goal.returns
unfolding patches_of
returns c = λ seed size rounds. all_fit rounds size (behind size seed)
