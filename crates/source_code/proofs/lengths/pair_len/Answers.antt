use Rattle.source_items.specs.Lines.{pattern_of}
use Rattle.source_items.proofs.HeldLemmas.{pair_len_held}
use Rattle.source_code.proofs.lengths.pair_len.Goals as goal

pub returns : goal.returns
returns c = (
  c.in_ok-len.ensures.0,
  pair_len_held (pattern_of c.args.own c.args.behind.now c.args.pattern.now) c.args.template.now c.in_ok-len.len c.template_len.result c.held_sum.result c.held_sum-2.result c.in_ok-len.ensures.1 c.template_len.ensures c.held_sum.ensures c.held_sum-2.ensures,
)
