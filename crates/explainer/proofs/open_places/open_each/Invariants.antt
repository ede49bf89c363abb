use Rattle.std.proofs.Common.{◌+◌, List}
use Rattle.fuun_base.specs.declared.letters.Base.{Base}
use Rattle.sym_strand.specs.declared.cells.Cell.{Cell}
use Rattle.explainer.specs.Open.{GoesOn}
use Rattle.explainer.proofs.open_places.open_each.Given as goal

abbrev pub invariant-loop-behind : goal.invariant-loop-behind
invariant-loop-behind l = (s : List Base) (z : List Cell) → GoesOn s z l.fn.begun.items l.place l.begun.items (l.place + l.behind)
