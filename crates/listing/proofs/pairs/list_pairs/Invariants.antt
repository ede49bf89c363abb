use Rattle.std.proofs.Common.{◌≡◌}
use Rattle.listing.proofs.ListLemmas.{IsListed}
use Rattle.listing.proofs.pairs.list_pairs.Given as goal

abbrev pub invariant-loop-pair : goal.invariant-loop-pair
invariant-loop-pair g l = record {
  listed : IsListed (g.T.Strand.bases l.s) l.count l._pair l.place (g.S.Sink.bytes l.fn.sink) (g.S.Sink.bytes l.sink);
  faults : g.S.Sink.faults l.sink ≡ g.S.Sink.faults l.fn.sink;
}
