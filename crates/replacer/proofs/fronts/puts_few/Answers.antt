use Rattle.std.proofs.Common.{arith, ap}
use Rattle.std.specs.Prelude.{slice_range}
use Rattle.fuun_base.specs.Tally.{tally_total}
use Rattle.fuun_base.proofs.Counting.{tally_total-tally_of}
use Rattle.strand.proofs.Ranges.{length-range}
use Rattle.replacer.proofs.PutLengths.{length_of_few}
use Rattle.replacer.proofs.fronts.puts_few.Goals as goal

pub returns-then-level-le1 : goal.returns-then-level-le1
returns-then-level-le1 g c =
    λ _. length_of_few (g.S.Strand.bases c.args.s.now) c.args.range.0 c.args.range.1 c.args.level c.requires.range.1 c.requires.few c.if-level-le1.true

pub quoted_len-requires-clause-sum : goal.quoted_len-requires-clause-sum
quoted_len-requires-clause-sum g c =
    let d = g.S.Strand.bases c.args.s.now in
    let text = slice_range d c.args.range.0 c.args.range.1 in
    omega (arith, c.requires.few, ap tally_total c.tally-tally.ensures, tally_total-tally_of text, length-range d c.args.range.0 c.args.range.1 c.requires.range.1)
