use Rattle.std.proofs.Common.{◌+◌, ◌≤◌, List, length}
use Rattle.fuun_base.specs.declared.letters.Base.{Base}
use Rattle.sym_strand.specs.declared.cells.Cell.{Cell}
use Rattle.explainer.specs.Repeats.{FrontsTo}
use Rattle.explainer.specs.Open.{GoesOn, FrontIsThere}
use Rattle.explainer.proofs.open_places.open_repeats.Given as goal

abbrev pub invariant-loop-at : goal.invariant-loop-at
invariant-loop-at l = (s : List Base) (z : List Cell) → FrontsTo s l.fronts → length l.fronts ≤ length s → FrontIsThere s (length l.fronts) z l.first → GoesOn s z l.fn.begun.items l.first l.begun.items (l.first + l.at)
