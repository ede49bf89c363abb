use Rattle.std.proofs.Common.{length, refl}
use Rattle.std.specs.List.{list_all}
use Rattle.dna_reader.specs.Codes.{pattern_code}
use Rattle.source_items.specs.Lines.{is_small_item, pattern_of}
use Rattle.source_items.proofs.HeldLemmas.{held_start, held_zero, is_held}
use Rattle.source_code.proofs.LoopLemmas.{all_end, all_more, pattern_end, pattern_more}
use Rattle.source_code.proofs.lengths.pattern_len.Goals as goal

pub loop-item-init : goal.loop-item-init
loop-item-init c = record {
  rest = held_start (length (pattern_code (pattern_of c.args.own c.args.behind.now c.args.items.now)));
  itself = held_zero;
  small = refl;
}

pub loop-item-preserved : goal.loop-item-preserved
loop-item-preserved c = record {
  rest = pattern_more c.args.own c.args.behind.now c.args.items.now c.loop-item.item-index c.item-item.result c.loop-item.len c.in_ok-item_len.field-0 c.held_sum-len.result (length (pattern_code (pattern_of c.args.own c.args.behind.now c.args.items.now))) c.loop-item-test.true c.item-item.is c.in_ok-item_len.ensures.1 c.held_sum-len.ensures c.loop-item.invariant.rest;
  itself = is_held _ _ c.held_sum-len.ensures;
  small = all_more (is_small_item c.args.own c.args.behind.now) c.args.items.now c.loop-item.item-index c.item-item.result (list_all (is_small_item c.args.own c.args.behind.now) c.args.items.now) c.loop-item-test.true c.item-item.is c.in_ok-item_len.ensures.0 c.loop-item.invariant.small;
}

pub returns : goal.returns
returns c = (
  all_end (is_small_item c.args.own c.args.behind.now) c.args.items.now c.loop-item.item-index _ c.loop-item-test.false c.loop-item.invariant.small,
  pattern_end c.args.own c.args.behind.now c.args.items.now c.loop-item.item-index c.loop-item.len _ c.loop-item-test.false c.loop-item.invariant.itself c.loop-item.invariant.rest,
)
