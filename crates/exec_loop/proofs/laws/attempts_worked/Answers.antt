use Rattle.exec_loop.proofs.Worked.{matching_is, failing_is, finishing_is}
use Rattle.exec_loop.proofs.laws.attempts_worked.Goals as goal

pub returns-clause-matching : goal.returns-clause-matching
returns-clause-matching c = matching_is

pub returns-clause-failing : goal.returns-clause-failing
returns-clause-failing c = failing_is

pub returns-clause-finishing : goal.returns-clause-finishing
returns-clause-finishing c = finishing_is
