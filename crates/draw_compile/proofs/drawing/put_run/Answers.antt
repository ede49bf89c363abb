use Rattle.draw_compile.proofs.CodeLemmas.{run_put}
use Rattle.draw_compile.proofs.drawing.put_run.Goals as goal

pub returns : goal.returns
returns c =
    run_put c.args.before c.args.run.now c.args.out.now.items
    c.put_filling.new.out.items c.extend_from_slice.new.self.items c.put_moves.new.out.items c.extend_from_slice-2.new.self.items c.extend_from_slice-3.new.self.items
    c.in_ok-put_filling.ensures c.in_ok-extend_from_slice.ensures.items c.in_ok-put_moves.ensures c.in_ok-extend_from_slice-2.ensures.items c.in_ok-extend_from_slice-3.ensures.items
