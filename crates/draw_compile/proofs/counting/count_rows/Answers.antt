use Rattle.std.proofs.Common.{◌+◌, ◌-◌, List, arith, ap}
use Rattle.draw_compile.specs.declared.runs.Run.{Run}
use Rattle.draw_compile.specs.Lengths.{filling_count, run_count}
use Rattle.draw_compile.specs.Runs.{runs_from}
use Rattle.draw_compile.proofs.RowLemmas.{next_row, no_row}
use Rattle.draw_compile.proofs.counting.count_rows.Goals as goal

pub loop-y-preserved : goal.loop-y-preserved
loop-y-preserved c =
    let before = c.loop-y.invariant in
    let row = c.count_row-counts.ensures in
    let y = c.loop-y.y in
    let rows : List (List Run) = runs_from 600 c.args.picture.now (y + 1) (600 - (y + 1)) in
    let next = next_row 600 c.args.picture.now y 600 c.loop-y-test.true in
    record {
      runs = omega (arith, before.runs, row.runs, ap run_count next);
      fillings = omega (arith, before.fillings, row.fillings, ap (filling_count c.loop-y.counts.last) next, ap (λ l. filling_count l rows) row.last);
      few_runs = omega (arith, row.few);
      few_fillings = omega (arith, row.few);
    }

pub returns-clause-runs : goal.returns-clause-runs
returns-clause-runs c =
    let none = no_row 600 c.args.picture.now c.loop-y.y 600 c.loop-y-test.false in
    omega (arith, c.loop-y.invariant.runs, ap run_count none)

pub returns-clause-fillings : goal.returns-clause-fillings
returns-clause-fillings c =
    let none = no_row 600 c.args.picture.now c.loop-y.y 600 c.loop-y-test.false in
    omega (arith, c.loop-y.invariant.fillings, ap (filling_count c.loop-y.counts.last) none)
