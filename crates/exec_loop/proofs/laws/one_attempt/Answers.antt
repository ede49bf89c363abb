use Rattle.exec_loop.proofs.Attempts as attempts
use Rattle.exec_loop.proofs.laws.one_attempt.Goals as goal

pub returns-clause-made : goal.returns-clause-made
returns-clause-made c = attempts.has_attempt

pub returns-clause-once : goal.returns-clause-once
returns-clause-once c = attempts.one_attempt
