use Rattle.std.proofs.Common.{length}
use Rattle.dna_reader.specs.Codes.{template_code}
use Rattle.source_items.proofs.HeldLemmas.{held_zero, held_start, is_held}
use Rattle.source_code.proofs.LoopLemmas.{template_more, template_end}
use Rattle.source_code.proofs.lengths.template_len.Goals as goal

pub loop-item-preserved : goal.loop-item-preserved
loop-item-preserved c = record {
  rest = template_more c.args.items.now c.loop-item.item-index _ c.loop-item.len c.template_item_len.result c.held_sum-len.result (length (template_code c.args.items.now)) c.loop-item-test.true c.template_item_len.ensures.len c.held_sum-len.ensures c.loop-item.invariant.rest;
  itself = is_held _ _ c.held_sum-len.ensures;
}

pub returns : goal.returns
returns c = template_end c.args.items.now c.loop-item.item-index c.loop-item.len _ c.loop-item-test.false c.loop-item.invariant.itself c.loop-item.invariant.rest

pub loop-item-init : goal.loop-item-init
loop-item-init c = record {
  rest = held_start (length (template_code c.args.items.now));
  itself = held_zero;
}
