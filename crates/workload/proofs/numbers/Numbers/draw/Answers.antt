use Rattle.std.proofs.Common.{refl}
use Rattle.workload.specs.Numbers.{drawn}
use Rattle.workload.proofs.numbers.Numbers.draw.Goals as goal

pub returns-clause-value : goal.returns-clause-value
unfolding drawn
returns-clause-value c = rw (c.turn-high.ensures.value, c.turn-low.ensures.value, c.turn-low.ensures.state, c.turn-high.ensures.state) refl
