use Rattle.source_text.proofs.PieceLemmas.{placed_more}
use Rattle.source_text.proofs.held.place_all.Goals as goal

pub pieces-preserved : goal.pieces-preserved
pieces-preserved c = placed_more c.args.at c.pieces.piece-index c.pieces.pieces c.args.pieces.now c.piece-item.result c.pieces-test.true c.pieces.invariant
