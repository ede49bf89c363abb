use Rattle.std.proofs.Common.{◌≡◌, ◌++◌, take}
use Rattle.source_text.proofs.pieces.append_copies.Given as goal

abbrev pub invariant-pieces : goal.invariant-pieces
invariant-pieces l = l.out.items ≡ l.fn.out.items ++ take l.piece-index l.pieces
