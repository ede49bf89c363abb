use Rattle.std.proofs.Common.{◌≡◌, ◌≤◌, ◌++◌, length}
use Rattle.conversation.specs.Cut.{NoFeed}
use Rattle.conversation.specs.Talking.{Waits}
use Rattle.conversation.proofs.lines.answer_lines.Given as goal

abbrev pub invariant-loop-end : goal.invariant-loop-end
invariant-loop-end g l = record {
  shorter : length l.rest ≤ length l.piece;
  unended : NoFeed l.waiting.items;
  waits : Waits g.A.Answerer.says l.fn.answerer (l.fn.waiting.items ++ l.piece) (l.waiting.items ++ l.rest) l.answerer (g.K.Sink.bytes l.fn.sink) (g.K.Sink.bytes l.sink);
  faults : g.K.Sink.faults l.sink ≡ g.K.Sink.faults l.fn.sink;
}

abbrev pub decreases-loop-end : goal.decreases-loop-end
decreases-loop-end g l = length l.rest
