use Rattle.std.proofs.Common.{◌≡◌, ◌∙◌, ap, length, map, refl}
use Rattle.std.specs.Vec.{with_items}
use Rattle.std.proofs.lemmas.List.{with_items_is}
use Rattle.source_text.specs.Pieces.{placed}
use Rattle.source_text.proofs.MeasureLemmas.{measured_placed}
use Rattle.source_text.proofs.PieceLemmas.{held_placed, placed_len}
use Rattle.source_text.proofs.held.placed.Goals as goal

pub returns : goal.returns
returns c limit x is =
    let size : length c.place_all.new.pieces ≡ c.args.held.items.len = ap length c.place_all.ensures ∙ placed_len c.args.at c.as_mut_slice.result.now ∙ c.as_mut_slice.ensures.len in
    held_placed limit c.args.at c.args.held (record { items = with_items c.args.held.items c.place_all.new.pieces; count = c.args.held.count; bases = c.args.held.bases; measure = c.args.held.measure }) x
    (with_items_is c.args.held.items c.place_all.new.pieces size ∙ c.place_all.ensures ∙ ap (map (placed c.args.at)) c.as_mut_slice.ensures.value) refl refl
    (measured_placed c.args.held.measure c.args.at x) is
