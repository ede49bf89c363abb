use Rattle.std.proofs.Common.{◌++◌, sym, ap, ◌∙◌, append-nil}
use Rattle.draw_compile.proofs.CodeLemmas.{more_inks, no_inks}
use Rattle.draw_compile.proofs.drawing.put_inks.Goals as goal

pub loop-k-init : goal.loop-k-init
loop-k-init c = sym (ap (λ l. c.args.out.now.items ++ l) (no_inks c.args.pixel) ∙ append-nil c.args.out.now.items)

pub loop-k-preserved : goal.loop-k-preserved
loop-k-preserved c =
    more_inks c.args.pixel c.loop-k.k c.args.out.now.items c.loop-k.out.items c.extend_from_slice.new.self.items c.ink.result
    c.loop-k.invariant c.ink.ensures c.in_ok-extend_from_slice.ensures.items
