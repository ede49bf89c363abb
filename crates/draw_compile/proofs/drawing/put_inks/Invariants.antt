use Rattle.std.proofs.Common.{◌≡◌, ◌++◌}
use Rattle.draw_compile.specs.Drawing.{codes_of, inks}
use Rattle.draw_compile.proofs.drawing.put_inks.Given as goal

abbrev pub invariant-loop-k : goal.invariant-loop-k
invariant-loop-k l = l.out.items ≡ l.fn.out.items ++ codes_of (inks l.pixel l.k)
