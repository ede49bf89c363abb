use Rattle.std.proofs.Common.{◌≡◌}
use Rattle.source_text.specs.Pieces.{times}
use Rattle.source_text.proofs.held.copies.Given as goal

abbrev pub invariant-copies : goal.invariant-copies
invariant-copies l = l.items.items ≡ times l._time l.pieces
