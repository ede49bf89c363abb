use Rattle.std.proofs.Common.{◌≡◌, ◌<◌, ◌^◌, length, slice_range, sym, ap, arith, ◌∙◌}
use Rattle.fuun_base.specs.Quote.{quote, protect}
use Rattle.fuun_base.specs.Tally.{tally_total}
use Rattle.fuun_base.proofs.Counting.{tally_total-tally_of}
use Rattle.fuun_base.proofs.QuoteLemmas.{length-quote}
use Rattle.strand.proofs.Levels.{protect_zero, protect_first}
use Rattle.rope_strand.proofs.ropes.RopeStrand.quoted_once.Goals as goal

pub quoted_len-requires-clause-sum : goal.quoted_len-requires-clause-sum
quoted_len-requires-clause-sum c =
    let range = slice_range c.args.self.now.bases c.args.lo c.args.hi in
    omega (arith, ap tally_total c.tally.ensures, tally_total-tally_of range, length-quote range, c.requires.small)

pub unreachable-requires : goal.unreachable-requires
unreachable-requires c =
    let range = slice_range c.args.self.now.bases c.args.lo c.args.hi in
    let once : protect 1 range ≡ quote range = protect_first 1 range (omega arith) ∙ protect_zero (quote range) in
    let long : 2 ^ 40 < length (protect 1 range) = c.in_default.ensures range (sym c.tally.ensures) in
    omega (arith, ap length once, c.requires.small)
