use Rattle.std.proofs.Common.{◌≡◌, take, map}
use Rattle.fuun_io.specs.Written.{appended}
use Rattle.match_text.specs.Groups.{moved_back}
use Rattle.match_text.specs.Way.{group_lines}
use Rattle.match_text.proofs.groups.put_groups.Given as goal

abbrev pub invariant-loop-number : goal.invariant-loop-number
invariant-loop-number g l = record {
  put : g.S.Sink.bytes l.sink ≡ appended (g.S.Sink.bytes l.fn.sink) (group_lines 0 (map (moved_back l.from) (take l.number l.groups)));
  faults : g.S.Sink.faults l.sink ≡ g.S.Sink.faults l.fn.sink;
}
