use Rattle.std.proofs.Common.{arith}
use Rattle.draw_compile.proofs.LengthLemmas.{length_by_runs}
use Rattle.draw_compile.proofs.counting.drawing_len.Goals as goal

pub returns-clause-len : goal.returns-clause-len
returns-clause-len c =
    let is = c.pixel_count.ensures.picture in
    let counts = c.count_rows-counts.ensures in
    omega (arith, length_by_runs c.args.picture.now is, counts.runs, counts.fillings, c.pixel_count.ensures.count, is.filled)

pub returns-clause-most : goal.returns-clause-most
returns-clause-most c = omega (arith, c.count_rows-counts.ensures.few, c.pixel_count.ensures.count, c.pixel_count.ensures.picture.filled)
