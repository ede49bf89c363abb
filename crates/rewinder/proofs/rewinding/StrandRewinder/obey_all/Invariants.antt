use Rattle.std.proofs.Common.{◌≡◌}
use Rattle.rewinder.specs.Rewinding.{HasVersions}
use Rattle.rewinder.proofs.ScriptSteps.{Obeying}
use Rattle.rewinder.proofs.rewinding.StrandRewinder.obey_all.Given as goal

abbrev pub invariant-loop-order : goal.invariant-loop-order
invariant-loop-order g l = record {
  obeying : Obeying (g.S.Strand.height_bound l.fn.self.limit) l.fn.self l.self l.order-items l.order-index (g.K.Sink.bytes l.fn.sink) (g.K.Sink.bytes l.sink) l.fn.steps l.steps;
  versions : HasVersions l.self;
  faults : g.K.Sink.faults l.sink ≡ g.K.Sink.faults l.fn.sink;
}
