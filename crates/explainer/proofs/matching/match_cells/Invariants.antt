use Rattle.explainer.proofs.ByItems.{GoneTo}
use Rattle.explainer.proofs.matching.match_cells.Given as goal

abbrev pub invariant-loop-item : goal.invariant-loop-item
invariant-loop-item l = GoneTo l.dna l.items l.item-index l.at l.marks.starts.items l.marks.ended.items
