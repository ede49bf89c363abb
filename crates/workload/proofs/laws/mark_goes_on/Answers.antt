use Rattle.workload.proofs.Drawing.{mark_goes_on}
use Rattle.workload.proofs.laws.mark_goes_on.Goals as goal

pub returns : goal.returns
returns c = mark_goes_on
