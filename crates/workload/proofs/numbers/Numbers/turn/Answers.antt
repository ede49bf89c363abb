use Rattle.std.proofs.Common.{refl}
use Rattle.workload.specs.Numbers.{shown, turned}
use Rattle.workload.proofs.numbers.Numbers.turn.Goals as goal

pub returns-clause-state : goal.returns-clause-state
unfolding turned
returns-clause-state c = rw c.self.view_is refl

pub returns-clause-value : goal.returns-clause-value
unfolding shown
returns-clause-value c = refl
