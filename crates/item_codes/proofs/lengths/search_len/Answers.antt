use Rattle.std.proofs.Common.{arith, ap}
use Rattle.dna_items.specs.Held.{held}
use Rattle.fuun_base.proofs.QuoteLemmas.{length-quote}
use Rattle.item_codes.proofs.lengths.search_len.Goals as goal

pub returns : goal.returns
unfolding held
returns c = omega (arith, length-quote c.args.bases.now, ap (λ t. t.p) c.of.ensures)
