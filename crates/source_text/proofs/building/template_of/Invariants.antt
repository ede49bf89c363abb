use Rattle.std.proofs.Common.{◌≡◌, take}
use Rattle.source_text.specs.Pieces.{template_of}
use Rattle.source_text.proofs.building.template_of.Given as goal

abbrev pub invariant-pieces : goal.invariant-pieces
invariant-pieces l = l.items ≡ template_of (take l.piece-index l.pieces)
