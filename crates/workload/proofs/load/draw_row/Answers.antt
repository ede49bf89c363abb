use Rattle.std.proofs.Common.{arith, ◌≡◌, ◌+◌, ◌-◌, ◌^◌, ap, sym, ◌∙◌, length}
use Rattle.std.proofs.lemmas.List.{length-take-le}
use Rattle.patch_text.specs.Contents.{with_row}
use Rattle.patch_text.specs.Lengths.{length_after}
use Rattle.workload.specs.Laws.{is_light}
use Rattle.workload.proofs.Bounds.{bounded_more}
use Rattle.workload.proofs.Drawing.{length-bases_drawn}
use Rattle.workload.proofs.Rows.{row_by_parts, row_light, state_by_parts}
use Rattle.workload.proofs.load.draw_row.Goals as goal

pub add-requires : goal.add-requires
add-requires c =
    let row = row_by_parts c.args.len c.args.numbers.now c.draw-place.new.self c.draw.new.self c.draw-count.new.self c.draw-place.result c.draw.result c.min-cut.result c.draw-count.result _ c.fill.new.slots c.draw-place.ensures.value c.draw-place.ensures.state c.draw.ensures.value c.min-cut.ensures c.draw.ensures.state c.draw-count.ensures.value c.draw-count.ensures.state (length-take-le c.draw-count.result _ (omega (arith, c.draw-count.ensures.below))) c.fill.ensures.bases in
    bounded_more c.args.patches.now _ c.requires.room (ap (is_light (2 ^ 25)) row ∙ row_light (2 ^ 25) c.args.len c.args.numbers.now c.requires.len)

pub returns-clause-added : goal.returns-clause-added
returns-clause-added c =
    let row = row_by_parts c.args.len c.args.numbers.now c.draw-place.new.self c.draw.new.self c.draw-count.new.self c.draw-place.result c.draw.result c.min-cut.result c.draw-count.result _ c.fill.new.slots c.draw-place.ensures.value c.draw-place.ensures.state c.draw.ensures.value c.min-cut.ensures c.draw.ensures.state c.draw-count.ensures.value c.draw-count.ensures.state (length-take-le c.draw-count.result _ (omega (arith, c.draw-count.ensures.below))) c.fill.ensures.bases in
    c.in_ok-add.ensures ∙ ap (with_row c.args.patches.now) row

pub returns-clause-len : goal.returns-clause-len
returns-clause-len c =
    let row = row_by_parts c.args.len c.args.numbers.now c.draw-place.new.self c.draw.new.self c.draw-count.new.self c.draw-place.result c.draw.result c.min-cut.result c.draw-count.result _ c.fill.new.slots c.draw-place.ensures.value c.draw-place.ensures.state c.draw.ensures.value c.min-cut.ensures c.draw.ensures.state c.draw-count.ensures.value c.draw-count.ensures.state (length-take-le c.draw-count.result _ (omega (arith, c.draw-count.ensures.below))) c.fill.ensures.bases in
    let put : length c.fill.new.slots ≡ c.draw-count.result = ap length c.fill.ensures.bases ∙ length-bases_drawn _ _ ∙ length-take-le c.draw-count.result _ (omega (arith, c.draw-count.ensures.below)) in
    sym (ap (λ k. c.args.len - c.min-cut.result + k) put) ∙ ap (length_after c.args.len) row

pub returns-clause-state : goal.returns-clause-state
returns-clause-state c =
    state_by_parts c.args.len c.args.numbers.now c.draw-place.new.self c.draw.new.self c.draw-count.new.self c.draw-count.result _ c.fill.new.self c.draw-place.ensures.state c.draw.ensures.state c.draw-count.ensures.value c.draw-count.ensures.state (length-take-le c.draw-count.result _ (omega (arith, c.draw-count.ensures.below))) c.fill.ensures.state
