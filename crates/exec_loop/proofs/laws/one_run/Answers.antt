use Rattle.exec_loop.proofs.Runs as runs
use Rattle.exec_loop.proofs.laws.one_run.Goals as goal

pub returns-clause-made : goal.returns-clause-made
returns-clause-made c = runs.has_run

pub returns-clause-once : goal.returns-clause-once
returns-clause-once c = runs.one_run
