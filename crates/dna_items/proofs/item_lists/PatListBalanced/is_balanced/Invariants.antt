use Rattle.dna_items.proofs.Balances.{IsDepth}
use Rattle.dna_items.proofs.item_lists.PatListBalanced.is_balanced.Given as goal

abbrev pub invariant-loop-item : goal.invariant-loop-item
invariant-loop-item l = IsDepth l.item-items l.item-index l.depth
