use Rattle.std.proofs.Common.{◌+◌, ◌∙◌, ap, sym}
use Rattle.dna_items.specs.Held.{held}
use Rattle.source_items.specs.Lines.{skips_len}
use Rattle.source_items.proofs.HeldLemmas.{sum_held}
use Rattle.source_code.proofs.lengths.long_len.Goals as goal

pub returns : goal.returns
returns c = (
  c.in_ok-others.ensures.0,
  c.held_sum.ensures ∙ ap (λ n. held (c.args.len + n)) c.in_ok-others.ensures.1 ∙ sym (sum_held c.args.len (skips_len c.args.own c.args.behind.now c.args.skips.now)),
)
