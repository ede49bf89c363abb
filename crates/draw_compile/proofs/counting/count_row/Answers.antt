use Rattle.std.proofs.Common.{length, arith, sym, ap, ◌∙◌}
use Rattle.draw_compile.specs.Drawing.{last_pixel}
use Rattle.draw_compile.specs.Lengths.{row_fillings}
use Rattle.draw_compile.proofs.RowLemmas.{no_run}
use Rattle.draw_compile.proofs.counting.count_row.Goals as goal

pub returns-clause-runs : goal.returns-clause-runs
returns-clause-runs c =
    let none = no_run 600 c.args.picture.now c.args.y c.loop-x.x c.loop-x-test.false in
    omega (arith, c.loop-x.invariant.runs, ap length none)

pub returns-clause-fillings : goal.returns-clause-fillings
returns-clause-fillings c =
    let none = no_run 600 c.args.picture.now c.args.y c.loop-x.x c.loop-x-test.false in
    omega (arith, c.loop-x.invariant.fillings, ap (row_fillings c.loop-x.counts.last) none)

pub returns-clause-last : goal.returns-clause-last
returns-clause-last c =
    let none = no_run 600 c.args.picture.now c.args.y c.loop-x.x c.loop-x-test.false in
    sym (ap (last_pixel c.loop-x.counts.last) none) ∙ c.loop-x.invariant.last
