use Rattle.source_items.proofs.HeldLemmas.{below_is_small, found_big, found_small}
use Rattle.source_code.proofs.values.small_value.Goals as goal

pub returns-then-value : goal.returns-then-value
returns-then-value c = found_big _ c.sum_value-value.result c.sum_value-value.ensures c.if-value.true

pub returns-else-value : goal.returns-else-value
returns-else-value c =
    let small = found_small _ c.sum_value-value.result c.sum_value-value.ensures c.if-value.false in
    (small, below_is_small _ c.sum_value-value.result c.sum_value-value.ensures small)
