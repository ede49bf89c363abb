use Rattle.std.proofs.Common.{arith, sym, ap, ◌∙◌}
use Rattle.fuun_base.specs.Quote.{protect}
use Rattle.strand.proofs.Levels.{protect_zero, protect_first}
use Rattle.strand.proofs.quoting.protected.Goals as goal

pub returns-then-level-eq0 : goal.returns-then-level-eq0
returns-then-level-eq0 c =
    let none = c.if-level-eq0.true in
    c.in_ok-from_slice.ensures.items ∙ sym (protect_zero c.args.list.now) ∙ ap (λ n. protect n c.args.list.now) (sym none)

pub returns : goal.returns
returns c =
    rw (protect_first c.args.level c.args.list.now (omega arith)) (rw c.in_ok-quote_of.ensures at c.requoted.ensures)
