use Rattle.std.proofs.Common.{◌≡◌, take}
use Rattle.source_text.specs.Pieces.{pattern_of}
use Rattle.source_text.proofs.building.pattern_of.Given as goal

abbrev pub invariant-pieces : goal.invariant-pieces
invariant-pieces l = l.items ≡ pattern_of (take l.piece-index l.pieces)
