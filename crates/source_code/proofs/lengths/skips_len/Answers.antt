use Rattle.std.proofs.Common.{◌∙◌, refl}
use Rattle.std.specs.List.{list_all}
use Rattle.source_items.specs.Lines.{is_small_skip, skips_len}
use Rattle.source_items.proofs.HeldLemmas.{held_start, held_zero, is_held}
use Rattle.source_code.proofs.LoopLemmas.{all_more, skips_alone, skips_more}
use Rattle.source_code.proofs.lengths.skips_len.Goals as goal

pub loop-skip-init : goal.loop-skip-init
loop-skip-init c = record {
  rest = held_start (skips_len c.args.own c.args.behind.now c.args.skips.now);
  itself = held_zero;
  small = refl;
}

pub loop-skip-preserved : goal.loop-skip-preserved
loop-skip-preserved c = record {
  rest = skips_more c.args.own c.args.behind.now c.args.skips.now c.loop-skip.skip-index c.skip-item.result c.loop-skip.len c.in_ok-counted_len.field-0 c.held_sum-len.result (skips_len c.args.own c.args.behind.now c.args.skips.now) c.loop-skip-test.true c.skip-item.is (c.in_ok-counted_len.ensures.1 ∙ skips_alone c.args.own c.args.behind.now c.skip-item.result) c.held_sum-len.ensures c.loop-skip.invariant.rest;
  itself = is_held _ _ c.held_sum-len.ensures;
  small = all_more (is_small_skip c.args.own c.args.behind.now) c.args.skips.now c.loop-skip.skip-index c.skip-item.result (list_all (is_small_skip c.args.own c.args.behind.now) c.args.skips.now) c.loop-skip-test.true c.skip-item.is c.in_ok-counted_len.ensures.0 c.loop-skip.invariant.small;
}
