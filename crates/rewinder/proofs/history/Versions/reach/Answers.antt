use Rattle.std.proofs.Common.{subst}
use Rattle.exec_loop.specs.Weights.{TicksForAttempt}
use Rattle.exec_loop.proofs.Parts.{on_err}
use Rattle.rewinder.specs.History.{last_state}
use Rattle.rewinder.proofs.HistoryLemmas.{making_done, making_failed, making_more, making_none}
use Rattle.rewinder.proofs.history.Versions.reach.Goals as goal

pub loop-self-init : goal.loop-self-init
loop-self-init g c = making_none (g.S.Strand.height_bound c.args.self.now.limit) c.args.self.now c.args.number c.args.steps.now c.reached-reached.ensures.known

pub loop-self-preserved : goal.loop-self-preserved
loop-self-preserved g c =
    let ticks = subst (λ n. TicksForAttempt (g.S.Strand.height_bound n) (last_state c.loop-self.self) c.loop-self.steps c.extend.new.steps) c.loop-self.invariant.makes.extends.limit c.extend.ensures.ticks in
    making_more (g.S.Strand.height_bound c.args.self.now.limit) c.args.self.now c.loop-self.self c.extend.new.self c.args.number c.args.steps.now c.loop-self.steps c.extend.new.steps c.loop-self.invariant
    (c.lacks.ensures.open c.loop-self-test.true) (c.lacks.ensures.before c.loop-self-test.true) c.in_ok-extend.ensures.grows c.extend.ensures.known ticks

pub returns-in_err-extend-clause-fails : goal.returns-in_err-extend-clause-fails
returns-in_err-extend-clause-fails g c =
    let ticks = subst (λ n. TicksForAttempt (g.S.Strand.height_bound n) (last_state c.loop-self.self) c.loop-self.steps c.extend.new.steps) c.loop-self.invariant.makes.extends.limit c.extend.ensures.ticks in
    on_err c.from_residual.result _
    (making_failed (g.S.Strand.height_bound c.args.self.now.limit) c.args.self.now c.loop-self.self c.extend.new.self c.args.number c.args.steps.now c.loop-self.steps c.extend.new.steps c.loop-self.invariant
    (c.lacks.ensures.open c.loop-self-test.true) (c.lacks.ensures.before c.loop-self-test.true) c.in_err-extend.ensures.unchanged ticks)

pub returns-clause-reaches : goal.returns-clause-reaches
returns-clause-reaches g c =
    making_done (g.S.Strand.height_bound c.args.self.now.limit) c.args.self.now c.loop-self.self c.args.number c.args.steps.now c.loop-self.steps c.loop-self.invariant (c.lacks.ensures.done c.loop-self-test.false)
