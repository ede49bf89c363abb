use Rattle.std.proofs.Common.{◌++◌, sym, ap, ◌∙◌}
use Rattle.draw_compile.specs.Drawing.{codes_of, last_pixel, row_commands}
use Rattle.draw_compile.proofs.RowLemmas.{no_run}
use Rattle.draw_compile.proofs.drawing.put_row.Goals as goal

pub returns-clause-added : goal.returns-clause-added
returns-clause-added c =
    let none = no_run 600 c.args.picture.now c.args.y c.loop-x.x c.loop-x-test.false in
    c.in_ok-put_turn.ensures
    ∙ sym (ap (λ runs. c.loop-x.out.items ++ codes_of (row_commands c.loop-x.last runs)) none)
    ∙ c.loop-x.invariant.added

pub returns-clause-last : goal.returns-clause-last
returns-clause-last c =
    let none = no_run 600 c.args.picture.now c.args.y c.loop-x.x c.loop-x-test.false in
    sym (ap (last_pixel c.loop-x.last) none) ∙ c.loop-x.invariant.last
