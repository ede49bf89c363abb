use Rattle.std.proofs.Common.{◌≡◌, ◌-◌, ◌≤◌, length, take, map}
use Rattle.fuun_base.specs.Letter.{letter_of}
use Rattle.fuun_io.specs.Written.{appended}
use Rattle.letters_out.proofs.slices.put_by_buffer.Given as goal

abbrev pub invariant-loop-place : goal.invariant-loop-place
invariant-loop-place g l = record {
  within : l.place ≤ length l.bases;
  put : g.S.Sink.bytes l.sink ≡ appended (g.S.Sink.bytes l.fn.sink) (take l.place (map letter_of l.bases));
  faults : g.S.Sink.faults l.sink ≡ g.S.Sink.faults l.fn.sink;
  same : length l.piece ≡ length l.initial.piece;
}

abbrev pub decreases-loop-place : goal.decreases-loop-place
decreases-loop-place g l = length l.bases - l.place
