use Rattle.std.proofs.Common.{arith, ap}
use Rattle.fuun_base.specs.Tally.{tally_total}
use Rattle.strand.proofs.Ranges.{tally_total-range}
use Rattle.rope_strand.proofs.tests.quoted.Goals as goal

pub quoted_len-requires-clause-sum : goal.quoted_len-requires-clause-sum
quoted_len-requires-clause-sum g c =
    omega (arith, ap tally_total c.tally-tally.ensures, tally_total-range c.args.whole.now.bases c.args.lo c.args.hi (omega arith))
