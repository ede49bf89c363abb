use Rattle.std.proofs.Common.{◌≤◌}
use Rattle.painter.proofs.tests.drawn.Given as goal

abbrev pub invariant-loop-command : goal.invariant-loop-command
invariant-loop-command g l = l.painter.taken ≤ l.command-index
