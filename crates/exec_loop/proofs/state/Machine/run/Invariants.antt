use Rattle.exec_loop.proofs.RunTicks.{IsMadeAndPaid}
use Rattle.exec_loop.proofs.state.Machine.run.Given as goal

abbrev pub invariant-loop-attempt : goal.invariant-loop-attempt
invariant-loop-attempt g l =
    IsMadeAndPaid g.T.RnaTaker.follows g.T.RnaTaker.faults g.T.RnaTaker.taken g.S.Strand.height_bound l.fn.rna l.rna l.fn.self l.self l.attempt l.fn.steps l.steps
