use Rattle.std.proofs.Common.{◌≡◌, arith, subst, sym, ◌∙◌}
use Rattle.exec_loop.proofs.Parts.{on_err}
use Rattle.exec_loop.proofs.AttemptByAttempt.{IsMade, run_is_spent, run_ends, spent_takes, ended_takes, broken_takes}
use Rattle.exec_loop.proofs.RunTicks.{IsMadeAndPaid, none_paid, one_more_paid, spent_ticks, ended_ticks, broken_paid, broken_ticks}
use Rattle.exec_loop.proofs.state.Machine.run.Goals as goal

pub returns-in_err-report-clause-most : goal.returns-in_err-report-clause-most
returns-in_err-report-clause-most g c =
    broken_takes g.T.RnaTaker.follows g.T.RnaTaker.within g.T.RnaTaker.faults g.T.RnaTaker.taken g.met.T.RnaTaker.goes_within g.met.T.RnaTaker.widens c.args.rna.now c.loop-attempt.rna c.step.new.rna c.args.self.now c.loop-attempt.self c.step.new.self c.args.budget c.loop-attempt.attempt c.loop-attempt.invariant.made c.loop-attempt-test.true c.in_err-report.ensures.part c.in_err-report.ensures.unchanged c.step.ensures.most

pub returns-in_err-report-clause-part : goal.returns-in_err-report-clause-part
returns-in_err-report-clause-part g c =
    on_err c.from_residual.result _ (broken_paid g.T.RnaTaker.follows g.T.RnaTaker.within g.T.RnaTaker.faults g.T.RnaTaker.taken g.S.Strand.height_bound g.met.T.RnaTaker.goes_within g.met.T.RnaTaker.widens c.args.rna.now c.loop-attempt.rna c.step.new.rna c.args.self.now c.loop-attempt.self c.step.new.self c.args.budget c.loop-attempt.attempt c.args.steps.now c.loop-attempt.steps c.step.new.steps c.loop-attempt.invariant c.loop-attempt-test.true c.in_err-report.ensures.part c.in_err-report.ensures.unchanged c.step.ensures.ticks)

pub returns-in_err-report-clause-ticks : goal.returns-in_err-report-clause-ticks
returns-in_err-report-clause-ticks g c =
    broken_ticks g.T.RnaTaker.follows g.T.RnaTaker.within g.T.RnaTaker.faults g.T.RnaTaker.taken g.S.Strand.height_bound g.met.T.RnaTaker.goes_within g.met.T.RnaTaker.widens c.args.rna.now c.loop-attempt.rna c.step.new.rna c.args.self.now c.loop-attempt.self c.step.new.self c.args.budget c.loop-attempt.attempt c.args.steps.now c.loop-attempt.steps c.step.new.steps c.loop-attempt.invariant c.loop-attempt-test.true c.in_err-report.ensures.part c.in_err-report.ensures.unchanged c.step.ensures.ticks

pub returns-in-Some-clause-run : goal.returns-in-Some-clause-run
returns-in-Some-clause-run g c =
    run_ends g.T.RnaTaker.follows g.T.RnaTaker.within g.T.RnaTaker.faults g.T.RnaTaker.taken g.met.T.RnaTaker.goes_on c.args.rna.now c.loop-attempt.rna c.step.new.rna c.args.self.now c.loop-attempt.self c.step.new.self c.args.budget c.loop-attempt.attempt c.in_ok-report.report c.in-Some.end c.loop-attempt.invariant.made c.in_ok-report.ensures.attempt (sym c.in-Some.ensures) c.loop-attempt-test.true

pub returns-in-Some-clause-most : goal.returns-in-Some-clause-most
returns-in-Some-clause-most g c =
    ended_takes g.T.RnaTaker.follows g.T.RnaTaker.within g.T.RnaTaker.faults g.T.RnaTaker.taken c.args.rna.now c.loop-attempt.rna c.step.new.rna c.args.self.now c.loop-attempt.self c.step.new.self c.args.budget c.loop-attempt.attempt c.in_ok-report.report c.in-Some.end c.loop-attempt.invariant.made c.in_ok-report.ensures.attempt (sym c.in-Some.ensures) c.loop-attempt-test.true c.step.ensures.most

pub returns-in-Some-clause-ticks : goal.returns-in-Some-clause-ticks
returns-in-Some-clause-ticks g c =
    ended_ticks g.T.RnaTaker.follows g.T.RnaTaker.within g.T.RnaTaker.faults g.T.RnaTaker.taken g.S.Strand.height_bound c.args.rna.now c.loop-attempt.rna c.step.new.rna c.args.self.now c.loop-attempt.self c.step.new.self c.args.budget c.loop-attempt.attempt c.in_ok-report.report c.in-Some.end c.args.steps.now c.loop-attempt.steps c.step.new.steps c.loop-attempt.invariant c.in_ok-report.ensures.attempt (sym c.in-Some.ensures) c.loop-attempt-test.true c.step.ensures.ticks

pub loop-attempt-preserved : goal.loop-attempt-preserved
loop-attempt-preserved g c =
    one_more_paid g.T.RnaTaker.follows g.T.RnaTaker.within g.T.RnaTaker.faults g.T.RnaTaker.taken g.S.Strand.height_bound g.met.T.RnaTaker.goes_on c.args.rna.now c.loop-attempt.rna c.step.new.rna c.args.self.now c.loop-attempt.self c.step.new.self c.loop-attempt.attempt c.in_ok-report.report c.args.steps.now c.loop-attempt.steps c.step.new.steps c.loop-attempt.invariant c.in_ok-report.ensures.attempt c.step.ensures.limit c.step.ensures.limited (sym c.run_end.ensures ∙ c.in_default.is) (c.in_ok-report.ensures.no_fault (λ e. cc)) c.step.ensures.most c.step.ensures.ticks

pub returns-clause-run : goal.returns-clause-run
returns-clause-run g c =
    let all : c.loop-attempt.attempt ≡ c.args.budget = omega arith in
    run_is_spent g.T.RnaTaker.follows g.T.RnaTaker.within g.T.RnaTaker.faults g.T.RnaTaker.taken c.args.rna.now c.loop-attempt.rna c.args.self.now c.loop-attempt.self c.args.budget
    (subst (λ n. IsMade g.T.RnaTaker.follows g.T.RnaTaker.faults g.T.RnaTaker.taken c.args.rna.now c.loop-attempt.rna c.args.self.now c.loop-attempt.self n) all c.loop-attempt.invariant.made)

pub returns-clause-most : goal.returns-clause-most
returns-clause-most g c =
    let all : c.loop-attempt.attempt ≡ c.args.budget = omega arith in
    spent_takes g.T.RnaTaker.follows g.T.RnaTaker.within g.T.RnaTaker.faults g.T.RnaTaker.taken c.args.rna.now c.loop-attempt.rna c.args.self.now c.loop-attempt.self c.args.budget
    (subst (λ n. IsMade g.T.RnaTaker.follows g.T.RnaTaker.faults g.T.RnaTaker.taken c.args.rna.now c.loop-attempt.rna c.args.self.now c.loop-attempt.self n) all c.loop-attempt.invariant.made)

pub returns-clause-ticks : goal.returns-clause-ticks
returns-clause-ticks g c =
    let all : c.loop-attempt.attempt ≡ c.args.budget = omega arith in
    spent_ticks g.T.RnaTaker.follows g.T.RnaTaker.within g.T.RnaTaker.faults g.T.RnaTaker.taken g.S.Strand.height_bound c.args.rna.now c.loop-attempt.rna c.args.self.now c.loop-attempt.self c.args.budget c.args.steps.now c.loop-attempt.steps
    (subst (λ n. IsMadeAndPaid g.T.RnaTaker.follows g.T.RnaTaker.faults g.T.RnaTaker.taken g.S.Strand.height_bound c.args.rna.now c.loop-attempt.rna c.args.self.now c.loop-attempt.self n c.args.steps.now c.loop-attempt.steps) all c.loop-attempt.invariant)

pub loop-attempt-init : goal.loop-attempt-init
loop-attempt-init g c =
    none_paid g.T.RnaTaker.follows g.T.RnaTaker.within g.T.RnaTaker.faults g.T.RnaTaker.taken g.S.Strand.height_bound g.met.T.RnaTaker.stays c.args.rna.now c.args.self.now c.args.steps.now c.limit-limit.ensures.limited
