use Rattle.std.proofs.lemmas.Result.{MatchResult-from_err}
use Rattle.fuun_io.proofs.WrittenLemmas.{PutsFront-at_piece}
use Rattle.fuun_io.proofs.put.put_pieces.Goals as goal

pub returns-in_err-put_all-clause-puts : goal.returns-in_err-put_all-clause-puts
returns-in_err-put_all-clause-puts g c =
    MatchResult-from_err c.from_residual.result _ _ c.from_residual.ensures.0
    (λ _. PutsFront-at_piece _ _ _ c.args.pieces.now c.loop-piece.piece-index _ c.loop-piece-test.true c.loop-piece.invariant.0 c.in_err-put_all.ensures.puts)
