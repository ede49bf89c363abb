use Rattle.std.proofs.Common.{◌≡◌, take, flat_map}
use Rattle.fuun_io.specs.Written.{appended}
use Rattle.listing.specs.Names.{name_line}
use Rattle.listing.proofs.names.list_rna.Given as goal

abbrev pub invariant-loop-command : goal.invariant-loop-command
invariant-loop-command g l = record {
  put : g.S.Sink.bytes l.sink ≡ appended (g.S.Sink.bytes l.fn.sink) (flat_map (name_line l.profile) (take l.command-index l.command-items));
  faults : g.S.Sink.faults l.sink ≡ g.S.Sink.faults l.fn.sink;
}
