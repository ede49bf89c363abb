use Rattle.std.proofs.Common.{List, flat_map, take}
use Rattle.source_text.specs.declared.pieces.Piece.{Piece}
use Rattle.source_text.specs.Keeping.{AreHeld, IsHeld}
use Rattle.source_text.specs.Pieces.{filled_item}
use Rattle.source_text.proofs.held.filled.Given as goal

abbrev pub invariant-pieces : goal.invariant-pieces
invariant-pieces l = (lists : List (List Piece)) → AreHeld l.limit l.given lists → IsHeld l.limit l.found (flat_map (filled_item lists) (take l.piece-index l.pieces))
