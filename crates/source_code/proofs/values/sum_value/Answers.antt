use Rattle.std.proofs.Common.{ap, ◌∙◌}
use Rattle.dna_items.specs.Held.{held}
use Rattle.source_items.specs.Values.{product_value, sum_value}
use Rattle.source_items.proofs.HeldLemmas.{held_zero, held_start, is_held}
use Rattle.source_code.proofs.LoopLemmas.{sum_more, sum_end}
use Rattle.source_code.proofs.values.sum_value.Goals as goal

pub loop-product-preserved : goal.loop-product-preserved
loop-product-preserved c = record {
  rest = sum_more c.args.own c.args.behind.now c.args.sum.now c.loop-product.product-index c.product-item.result c.loop-product.value c.product_value.result c.held_sum-value.result (sum_value c.args.own c.args.behind.now c.args.sum.now) c.loop-product-test.true c.product-item.is (c.product_value.ensures ∙ ap (λ l. held (product_value c.args.own c.args.behind.now l)) c.as_slice.ensures) c.held_sum-value.ensures c.loop-product.invariant.rest;
  itself = is_held _ _ c.held_sum-value.ensures;
}

pub returns : goal.returns
returns c = sum_end c.args.own c.args.behind.now c.args.sum.now c.loop-product.product-index c.loop-product.value _ c.loop-product-test.false c.loop-product.invariant.itself c.loop-product.invariant.rest

pub loop-product-init : goal.loop-product-init
loop-product-init c = record {
  rest = held_start (sum_value c.args.own c.args.behind.now c.args.sum.now);
  itself = held_zero;
}
