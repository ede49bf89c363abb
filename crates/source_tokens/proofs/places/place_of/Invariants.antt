use Rattle.std.proofs.Common.{◌≡◌, ◌+◌, ◌≤◌, fold, take}
use Rattle.source_tokens.specs.Places.{behind, place_at}
use Rattle.source_tokens.proofs.places.place_of.Given as goal

abbrev pub invariant-bytes : goal.invariant-bytes
invariant-bytes l = record {
  value : l.place ≡ fold behind (place_at 1 1) (take l.byte-index l.byte-items);
  line : l.place.line ≤ l.byte-index + 1;
  column : l.place.column ≤ l.byte-index + 1;
}
