use Rattle.std.proofs.Common.{◌≡◌, ◌++◌}
use Rattle.std.specs.Prelude.{replicate}
use Rattle.draw_compile.specs.Drawing.{codes_of, move}
use Rattle.draw_compile.proofs.drawing.put_moves.Given as goal

abbrev pub invariant-loop-step : goal.invariant-loop-step
invariant-loop-step l = l.out.items ≡ l.fn.out.items ++ codes_of (replicate l._step move)
