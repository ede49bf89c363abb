use Rattle.std.proofs.Common.{refl}
use Rattle.source_text.proofs.PieceLemmas.{held_one}
use Rattle.source_text.proofs.held.one_piece.Goals as goal

pub returns : goal.returns
returns c =
    held_one c.args.limit c.item_size-count.result (record { items = c.in_ok-items.items; count = c.item_size-count.result; bases = c.is_base_item-bases.result; measure = c.in_ok-measure.measure }) c.args.piece
    c.requires c.item_size-count.ensures c.in_ok-items.ensures refl c.is_base_item-bases.ensures (c.in_ok-measure.ensures c.args.piece.at)
