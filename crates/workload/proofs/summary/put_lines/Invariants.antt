use Rattle.std.proofs.Common.{◌≡◌, flat_map, take}
use Rattle.fuun_io.specs.Written.{appended}
use Rattle.workload.specs.Summary.{line_text}
use Rattle.workload.proofs.summary.put_lines.Given as goal

abbrev pub invariant-loop-word : goal.invariant-loop-word
invariant-loop-word g l = record {
  put : g.S.Sink.bytes l.sink ≡ appended (g.S.Sink.bytes l.fn.sink) (flat_map (λ line. line_text line.0.now line.1) (take l.word-index l.lines));
  faults : g.S.Sink.faults l.sink ≡ g.S.Sink.faults l.fn.sink;
}
