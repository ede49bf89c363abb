use Rattle.std.proofs.Common.{◌+◌, ◌-◌}
use Rattle.std.specs.Option.{option_len}
use Rattle.rewinder.specs.History.{reached}
use Rattle.rewinder.proofs.HistoryLemmas.{Making}
use Rattle.rewinder.proofs.history.Versions.reach.Given as goal

abbrev pub invariant-loop-self : goal.invariant-loop-self
invariant-loop-self g l = Making (g.S.Strand.height_bound l.fn.self.limit) l.fn.self l.self l.number l.fn.steps l.steps

abbrev pub decreases-loop-self : goal.decreases-loop-self
decreases-loop-self g l = (l.number - reached l.self) + (1 - option_len l.self.stop)
