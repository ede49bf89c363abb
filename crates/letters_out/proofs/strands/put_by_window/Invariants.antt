use Rattle.std.proofs.Common.{◌≡◌, ◌-◌, ◌≤◌, length, take, map}
use Rattle.std.specs.Prelude.{slice_range}
use Rattle.fuun_base.specs.Letter.{letter_of}
use Rattle.fuun_io.specs.Written.{appended}
use Rattle.letters_out.proofs.strands.put_by_window.Given as goal

abbrev pub invariant-loop-done : goal.invariant-loop-done
invariant-loop-done g l = record {
  within : l.done ≤ l.len;
  put : g.S.Sink.bytes l.sink ≡ appended (g.S.Sink.bytes l.fn.sink) (take l.done (map letter_of (slice_range (g.T.Strand.bases l.dna) l.lo l.hi)));
  faults : g.S.Sink.faults l.sink ≡ g.S.Sink.faults l.fn.sink;
  window : length l.window ≡ length l.initial.window;
  piece : length l.piece ≡ length l.initial.piece;
}

abbrev pub decreases-loop-done : goal.decreases-loop-done
decreases-loop-done g l = l.len - l.done
