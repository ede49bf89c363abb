use Rattle.std.proofs.Common.{◌+◌, ◌-◌, ◌<◌, List, length}
use Rattle.sym_strand.specs.declared.cells.Cell.{Cell}
use Rattle.explainer.specs.Cuts.{AreCuts}
use Rattle.explainer.proofs.texts.keep.Given as goal

abbrev pub invariant-loop-cuts : goal.invariant-loop-cuts
invariant-loop-cuts l = (texts : List (List Cell)) → l.n < length texts → AreCuts texts l.fn.cuts.items → AreCuts texts l.cuts.items

abbrev pub decreases-loop-cuts : goal.decreases-loop-cuts
decreases-loop-cuts l = l.n + 1 - length l.cuts.items
