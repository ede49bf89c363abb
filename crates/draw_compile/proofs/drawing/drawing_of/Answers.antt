use Rattle.std.proofs.Common.{◌+◌, ◌-◌, ◌++◌, None, sym, ap, ◌∙◌, append-nil}
use Rattle.draw_compile.specs.Drawing.{codes_of, commands_of}
use Rattle.draw_compile.specs.Runs.{row_at, runs_from, runs_of}
use Rattle.draw_compile.proofs.CodeLemmas.{drawing-rows, row_put}
use Rattle.draw_compile.proofs.RowLemmas.{next_row, no_row}
use Rattle.draw_compile.proofs.drawing.drawing_of.Goals as goal

pub loop-y-init : goal.loop-y-init
loop-y-init c =
    ap (λ l. l ++ codes_of (commands_of None (runs_from 600 c.args.picture.now 0 600))) c.in_ok-out.ensures.items ∙ drawing-rows c.args.picture.now

pub loop-y-preserved : goal.loop-y-preserved
loop-y-preserved c =
    let picture = c.args.picture.now in
    let y = c.loop-y.y in
    row_put picture c.loop-y.before c.in_ok-before.before (runs_of (row_at 600 picture y)) (runs_from 600 picture (y + 1) (600 - (y + 1))) (runs_from 600 picture y (600 - y))
    c.loop-y.out.items c.put_row.new.out.items (next_row 600 picture y 600 c.loop-y-test.true) c.in_ok-before.ensures.last c.in_ok-before.ensures.added c.loop-y.invariant

pub returns : goal.returns
returns c =
    let none = no_row 600 c.args.picture.now c.loop-y.y 600 c.loop-y-test.false in
    sym (ap (λ rows. c.loop-y.out.items ++ codes_of (commands_of c.loop-y.before rows)) none ∙ append-nil c.loop-y.out.items) ∙ c.loop-y.invariant
