use Rattle.std.proofs.Common.{sym}
use Rattle.exec_loop.proofs.Parts.{next_is_put, dna_stays, ticks_there}
use Rattle.exec_loop.proofs.state.Machine.put_next.Goals as goal
use Rattle.exec_loop.proofs.state.Machine.put_next.Goals.{in-Some, in_default}

pub returns-clause-came : goal.returns-clause-came
returns-clause-came g c =
    elim c.match-next.branch [
      | in-Some w ↦ next_is_put g.S.Strand.bases c.args.self.now c.match-next.self (g.S.Strand.bases c.self.inside.dna) c.self.inside.limit c.args.pair.next c.args.pair.pattern c.args.pair.template c.in_ok-rewriting.rewriting.outcome c.in_ok-rewriting.rewriting.next (sym c.self.view_is) c.in_ok-rewriting.ensures.comes w.in-Some.dna c.self.inside.limit w.in-Some.is w.self-is
      | in_default w ↦ dna_stays g.S.Strand.bases c.args.self.now c.match-next.self (g.S.Strand.bases c.self.inside.dna) c.self.inside.limit c.args.pair.next c.args.pair.pattern c.args.pair.template c.in_ok-rewriting.rewriting.outcome c.in_ok-rewriting.rewriting.next (sym c.self.view_is) c.in_ok-rewriting.ensures.comes w.in_default.is w.self-is
    ]

pub returns-in_err-rewriting-clause-ticks : goal.returns-in_err-rewriting-clause-ticks
returns-in_err-rewriting-clause-ticks g c =
    ticks_there g.S.Strand.height_bound c.args.self.now (g.S.Strand.bases c.self.inside.dna) c.self.inside.limit c.args.pair.next c.args.pair.pattern c.args.pair.template c.args.steps.now c.rewrite.new.steps (sym c.self.view_is) c.rewrite.ensures.ticks

pub returns-clause-ticks : goal.returns-clause-ticks
returns-clause-ticks g c =
    ticks_there g.S.Strand.height_bound c.args.self.now (g.S.Strand.bases c.self.inside.dna) c.self.inside.limit c.args.pair.next c.args.pair.pattern c.args.pair.template c.args.steps.now c.rewrite.new.steps (sym c.self.view_is) c.rewrite.ensures.ticks
