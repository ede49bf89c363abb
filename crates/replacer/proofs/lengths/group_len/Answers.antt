use Rattle.std.proofs.Common.{◌≡◌, ◌-◌, length, arith, ap}
use Rattle.fuun_base.specs.Quote.{protect}
use Rattle.fuun_base.specs.Tally.{tally_total}
use Rattle.strand.proofs.Ranges.{tally_total-range}
use Rattle.replacer.specs.Replacement.{text_of, texts_of}
use Rattle.replacer.proofs.PutLengths.{length_of_plain}
use Rattle.replacer.proofs.lengths.group_len.Goals as goal

pub returns-then-level-eq0 : goal.returns-then-level-eq0
returns-then-level-eq0 g c =
    let d = g.S.Strand.bases c.args.s.now in
    let lo = c.range_of-lo.result.0 in
    let hi = c.range_of-lo.result.1 in
    let lies = c.range_of-lo.ensures.within (length d) c.requires.groups in
    let plain : hi - lo ≡ length (protect c.args.level (text_of (texts_of d c.args.groups.now) c.args.n)) =
    length_of_plain d (text_of (texts_of d c.args.groups.now) c.args.n) lo hi c.args.level c.if-level-eq0.true lies.1 (c.range_of-lo.ensures.text d) in
    rw (← plain) c.fitting.ensures

pub quoted_len-requires-clause-sum : goal.quoted_len-requires-clause-sum
quoted_len-requires-clause-sum g c =
    let d = g.S.Strand.bases c.args.s.now in
    let lo = c.range_of-lo.result.0 in
    let hi = c.range_of-lo.result.1 in
    let lies = c.range_of-lo.ensures.within (length d) c.requires.groups in
    omega (arith, c.requires.most, ap tally_total c.tally-tally.ensures, tally_total-range d lo hi lies.1)
