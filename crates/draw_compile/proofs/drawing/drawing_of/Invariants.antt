use Rattle.std.proofs.Common.{◌≡◌, ◌-◌, ◌++◌}
use Rattle.draw_compile.specs.Drawing.{codes_of, commands_of, drawing}
use Rattle.draw_compile.specs.Runs.{runs_from}
use Rattle.draw_compile.proofs.drawing.drawing_of.Given as goal

abbrev pub invariant-loop-y : goal.invariant-loop-y
invariant-loop-y l = l.out.items ++ codes_of (commands_of l.before (runs_from 600 l.picture l.y (600 - l.y))) ≡ drawing l.picture
