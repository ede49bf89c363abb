use Rattle.exec_loop.proofs.Joined.{run_goes_on}
use Rattle.exec_loop.proofs.laws.runs_join.Goals as goal

pub returns : goal.returns
returns c = run_goes_on
