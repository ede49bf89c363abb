use Rattle.std.proofs.Common.{◌≡◌, take, flat_map}
use Rattle.fuun_io.specs.Written.{appended}
use Rattle.listing.specs.Texts.{pattern_item_text}
use Rattle.listing.proofs.items.put_pattern_items.Given as goal

abbrev pub invariant-loop-item : goal.invariant-loop-item
invariant-loop-item g l = record {
  put : g.S.Sink.bytes l.sink ≡ appended (g.S.Sink.bytes l.fn.sink) (flat_map pattern_item_text (take l.item-index l.items));
  faults : g.S.Sink.faults l.sink ≡ g.S.Sink.faults l.fn.sink;
}
