use Rattle.std.proofs.Common.{rules, subst, sym}
use Rattle.dna_items.specs.Balance.{IsBalanced}
use Rattle.dna_items.proofs.Balances.{depth_more, depth_fails}
use Rattle.dna_items.proofs.item_lists.PatListBalanced.is_balanced.Goals as goal

pub returns-in_default : goal.returns-in_default
returns-in_default c =
    let fails : IsBalanced c.as_slice-item-items.result.now → ⊥ =
    depth_fails _ _ _ _ c.loop-item.invariant c.loop-item-test.true c.item-item.is c.in_default.ensures in
    (λ h. search rules, λ whole. absurd (fails (subst IsBalanced (sym c.as_slice-item-items.ensures) whole)))

pub loop-item-preserved : goal.loop-item-preserved
loop-item-preserved c = depth_more _ _ _ _ _ c.loop-item.invariant c.loop-item-test.true c.item-item.is c.in-Some.ensures
