use Rattle.workload.specs.Load.{patches_of, target_of}
use Rattle.workload.specs.Numbers.{behind}
use Rattle.workload.proofs.Drawing.{length-bases_drawn}
use Rattle.workload.proofs.Rows.{length-rows_drawn}
use Rattle.workload.proofs.laws.counts.Goals as goal

pub returns-clause-target : goal.returns-clause-target
unfolding target_of
returns-clause-target c = λ seed size. length-bases_drawn size seed

pub returns-clause-rows : goal.returns-clause-rows
unfolding patches_of
returns-clause-rows c = λ seed size rounds. length-rows_drawn rounds size (behind size seed)
