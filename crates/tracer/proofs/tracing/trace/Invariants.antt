use Rattle.std.proofs.Common.{◌≡◌}
use Rattle.tracer.proofs.TraceLemmas.{HasTraced}
use Rattle.tracer.proofs.tracing.trace.Given as goal

abbrev pub invariant-loop-attempt : goal.invariant-loop-attempt
invariant-loop-attempt g l = record {
  traced : HasTraced g.T.Strand.height_bound l.fn.machine l.machine l.attempt (g.S.Sink.bytes l.fn.sink) (g.S.Sink.bytes l.sink) l.fn.steps l.steps;
  faults : g.S.Sink.faults l.sink ≡ g.S.Sink.faults l.fn.sink;
}
