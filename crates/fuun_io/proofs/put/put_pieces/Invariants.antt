use Rattle.std.proofs.Common.{◌≡◌, flat_map, take}
use Rattle.fuun_io.specs.Written.{appended}
use Rattle.fuun_io.proofs.put.put_pieces.Given as goal

abbrev pub invariant-loop-piece : goal.invariant-loop-piece
invariant-loop-piece g l =
    (g.S.Sink.bytes l.sink ≡ appended (g.S.Sink.bytes l.fn.sink) (flat_map (λ piece. piece.now) (take l.piece-index l.pieces)))
    × (g.S.Sink.faults l.sink ≡ g.S.Sink.faults l.fn.sink)
