use Rattle.std.proofs.Common.{◌≡◌, ◌++◌, drop, map, take}
use Rattle.source_text.specs.Pieces.{placed}
use Rattle.source_text.proofs.held.place_all.Given as goal

abbrev pub invariant-pieces : goal.invariant-pieces
invariant-pieces l = l.pieces ≡ map (placed l.at) (take l.piece-index l.fn.pieces) ++ drop l.piece-index l.fn.pieces
