use Rattle.std.proofs.Common.{◌≡◌, length, Err, arith, refl, ap, sym, subst, ◌∙◌}
use Rattle.std.proofs.lemmas.Result.{err_from_is_err_and}
use Rattle.dna_reader.specs.Takers.{Counted, CountedFront}
use Rattle.listing.specs.declared.pairs.ListError.TheVariants.{WriteFault}
use Rattle.tracer.specs.Traced.{IsTraced}
use Rattle.tracer.proofs.TraceLemmas.{none_traced, traced_before, ticked_before, ticked, traced_up_to, traced_end, traced_more, traced_spent, ticked_spent}
use Rattle.tracer.proofs.tracing.trace.Goals as goal

pub loop-attempt-init : goal.loop-attempt-init
loop-attempt-init g c = record {
  traced = none_traced g.T.Strand.height_bound c.args.machine.now _ c.args.steps.now c.limit-limit.ensures.limited;
  faults = refl;
}

pub returns-in_default-clause-traced : goal.returns-in_default-clause-traced
returns-in_default-clause-traced g c =
    traced_before CountedFront _ _ g.T.Strand.height_bound c.args.machine.now c.loop-attempt.machine c.step.new.self c.args.budget c.loop-attempt.attempt _ _ c.args.steps.now c.loop-attempt.steps
    c.loop-attempt.invariant.traced c.loop-attempt-test.true c.in_default.ensures.part c.in_default.ensures.unchanged

pub returns-in_default-clause-ticks : goal.returns-in_default-clause-ticks
returns-in_default-clause-ticks g c =
    ticked_before CountedFront _ _ g.T.Strand.height_bound c.args.machine.now c.loop-attempt.machine c.args.budget c.loop-attempt.attempt _ _ c.args.steps.now c.loop-attempt.steps c.step.new.steps
    c.loop-attempt.invariant.traced c.loop-attempt-test.true c.in_default.ensures.part c.step.ensures.ticks

pub returns-in_err-put_line-clause-traced : goal.returns-in_err-put_line-clause-traced
returns-in_err-put_line-clause-traced g c =
    let failed = err_from_is_err_and c.from_residual.result c.from_residual.ensures.1 in
    let is : c.from_residual.result ≡ Err WriteFault = failed.1 ∙ ap (λ e. Err e) failed.2 in
    subst (λ r. IsTraced c.args.machine.now c.step.new.self c.args.budget r (g.S.Sink.bytes c.args.sink.now) (g.S.Sink.bytes c.put_line.new.sink)) (sym is)
    (traced_up_to Counted _ _ g.T.Strand.height_bound c.args.machine.now c.loop-attempt.machine c.step.new.self c.args.budget c.loop-attempt.attempt c.in-Ok.report (g.S.Sink.bytes c.args.sink.now) (g.S.Sink.bytes c.loop-attempt.sink) (g.S.Sink.bytes c.put_line.new.sink) c.args.steps.now c.loop-attempt.steps c.step.new.steps c.len-len.result c.len.result
    c.loop-attempt.invariant.traced c.loop-attempt-test.true c.in-Ok.ensures.attempt (c.len-len.ensures.length ∙ ap length c.dna.ensures.dna) (c.len.ensures.length ∙ ap length c.dna-in-loop-attempt.ensures.dna) c.step.ensures.ticks c.in_err-put_line.ensures.puts)

pub returns-in_err-put_line-clause-ticks : goal.returns-in_err-put_line-clause-ticks
returns-in_err-put_line-clause-ticks g c =
    ticked Counted _ _ g.T.Strand.height_bound c.args.machine.now c.loop-attempt.machine c.step.new.self c.args.budget c.loop-attempt.attempt c.in-Ok.report (g.S.Sink.bytes c.args.sink.now) (g.S.Sink.bytes c.loop-attempt.sink) (g.S.Sink.bytes c.put_line.new.sink) c.args.steps.now c.loop-attempt.steps c.step.new.steps c.len-len.result c.len.result
    c.loop-attempt.invariant.traced c.loop-attempt-test.true c.in-Ok.ensures.attempt (c.len-len.ensures.length ∙ ap length c.dna.ensures.dna) (c.len.ensures.length ∙ ap length c.dna-in-loop-attempt.ensures.dna) c.step.ensures.ticks

pub returns-in-Some-clause-traced : goal.returns-in-Some-clause-traced
returns-in-Some-clause-traced g c =
    traced_end Counted _ _ g.T.Strand.height_bound c.args.machine.now c.loop-attempt.machine c.step.new.self c.args.budget c.loop-attempt.attempt c.in-Ok.report (g.S.Sink.bytes c.args.sink.now) (g.S.Sink.bytes c.loop-attempt.sink) (g.S.Sink.bytes c.put_line.new.sink) c.args.steps.now c.loop-attempt.steps c.step.new.steps c.len-len.result c.len.result
    c.loop-attempt.invariant.traced c.loop-attempt-test.true c.in-Ok.ensures.attempt (c.len-len.ensures.length ∙ ap length c.dna.ensures.dna) (c.len.ensures.length ∙ ap length c.dna-in-loop-attempt.ensures.dna) c.step.ensures.ticks
    c.in-Some.end (sym c.in-Some.ensures) c.in_ok-put_line.ensures.puts

pub returns-in-Some-clause-ticks : goal.returns-in-Some-clause-ticks
returns-in-Some-clause-ticks g c =
    ticked Counted _ _ g.T.Strand.height_bound c.args.machine.now c.loop-attempt.machine c.step.new.self c.args.budget c.loop-attempt.attempt c.in-Ok.report (g.S.Sink.bytes c.args.sink.now) (g.S.Sink.bytes c.loop-attempt.sink) (g.S.Sink.bytes c.put_line.new.sink) c.args.steps.now c.loop-attempt.steps c.step.new.steps c.len-len.result c.len.result
    c.loop-attempt.invariant.traced c.loop-attempt-test.true c.in-Ok.ensures.attempt (c.len-len.ensures.length ∙ ap length c.dna.ensures.dna) (c.len.ensures.length ∙ ap length c.dna-in-loop-attempt.ensures.dna) c.step.ensures.ticks

pub loop-attempt-preserved : goal.loop-attempt-preserved
loop-attempt-preserved g c = record {
  traced =
      traced_more Counted _ _ g.T.Strand.height_bound c.args.machine.now c.loop-attempt.machine c.step.new.self c.args.budget c.loop-attempt.attempt c.in-Ok.report (g.S.Sink.bytes c.args.sink.now) (g.S.Sink.bytes c.loop-attempt.sink) (g.S.Sink.bytes c.put_line.new.sink) c.args.steps.now c.loop-attempt.steps c.step.new.steps c.len-len.result c.len.result
      c.loop-attempt.invariant.traced c.loop-attempt-test.true c.in-Ok.ensures.attempt (c.len-len.ensures.length ∙ ap length c.dna.ensures.dna) (c.len.ensures.length ∙ ap length c.dna-in-loop-attempt.ensures.dna) c.step.ensures.ticks
      c.step.ensures.limit c.step.ensures.limited (sym c.end_by.ensures ∙ c.in_default-end_by.is) c.in_ok-put_line.ensures.puts;
  faults = c.in_ok-put_line.ensures.cause ∙ c.loop-attempt.invariant.faults;
}

pub returns-clause-traced : goal.returns-clause-traced
returns-clause-traced g c =
    let all : c.loop-attempt.attempt ≡ c.args.budget = omega arith in
    traced_spent g.T.Strand.height_bound c.args.machine.now c.loop-attempt.machine c.args.budget c.loop-attempt.attempt _ _ c.args.steps.now c.loop-attempt.steps all c.loop-attempt.invariant.traced

pub returns-clause-ticks : goal.returns-clause-ticks
returns-clause-ticks g c =
    let all : c.loop-attempt.attempt ≡ c.args.budget = omega arith in
    ticked_spent g.T.Strand.height_bound c.args.machine.now c.loop-attempt.machine c.args.budget c.loop-attempt.attempt _ _ c.args.steps.now c.loop-attempt.steps all c.loop-attempt.invariant.traced
