use Rattle.std.proofs.Common.{◌≡◌, take}
use Rattle.source_text.specs.Pieces.{bases_of}
use Rattle.source_text.proofs.held.bases_of.Given as goal

abbrev pub invariant-pieces : goal.invariant-pieces
invariant-pieces l = l.bases.items ≡ bases_of (take l.piece-index l.pieces)
