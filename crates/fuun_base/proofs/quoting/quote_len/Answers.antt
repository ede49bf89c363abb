use Rattle.std.proofs.Common.{arith, ap}
use Rattle.fuun_base.proofs.Counting.{tally_total-tally_of}
use Rattle.fuun_base.proofs.QuoteLemmas.{length-quote}
use Rattle.fuun_base.proofs.quoting.quote_len.Goals as goal

pub overflow_add-result : goal.overflow_add-result
overflow_add-result c = omega (arith, tally_total-tally_of c.args.source.now, ap (λ t. t.p) c.of.ensures)

pub returns : goal.returns
returns c = omega (arith, length-quote c.args.source.now, ap (λ t. t.p) c.of.ensures)
