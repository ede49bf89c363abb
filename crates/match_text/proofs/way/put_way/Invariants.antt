use Rattle.std.proofs.Common.{◌≡◌, ◌-◌, length}
use Rattle.match_text.proofs.WayLemmas.{Written}
use Rattle.match_text.proofs.way.put_way.Given as goal

abbrev pub invariant-parts : goal.invariant-parts
invariant-parts g l = record {
  written : Written l.items l.places l.next l.at (g.S.Sink.bytes l.fn.sink) (g.S.Sink.bytes l.sink);
  faults : g.S.Sink.faults l.sink ≡ g.S.Sink.faults l.fn.sink;
}

abbrev pub decreases-parts : goal.decreases-parts
decreases-parts g l = length l.items - l.next
