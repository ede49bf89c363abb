use Rattle.source_items.specs.Values.{product_value}
use Rattle.source_items.proofs.HeldLemmas.{held_one, held_start_times, is_held}
use Rattle.source_code.proofs.LoopLemmas.{product_more, product_end}
use Rattle.source_code.proofs.values.product_value.Goals as goal

pub loop-factor-preserved : goal.loop-factor-preserved
loop-factor-preserved c = record {
  rest = product_more c.args.own c.args.behind.now c.args.product.now c.loop-factor.factor-index _ c.loop-factor.value c.factor_value.result c.held_product-value.result (product_value c.args.own c.args.behind.now c.args.product.now) c.loop-factor-test.true c.factor_value.ensures c.held_product-value.ensures c.loop-factor.invariant.rest;
  itself = is_held _ _ c.held_product-value.ensures;
}

pub returns : goal.returns
returns c = product_end c.args.own c.args.behind.now c.args.product.now c.loop-factor.factor-index c.loop-factor.value _ c.loop-factor-test.false c.loop-factor.invariant.itself c.loop-factor.invariant.rest

pub loop-factor-init : goal.loop-factor-init
loop-factor-init c = record {
  rest = held_start_times (product_value c.args.own c.args.behind.now c.args.product.now);
  itself = held_one;
}
