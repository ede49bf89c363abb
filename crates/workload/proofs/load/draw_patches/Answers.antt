use Rattle.std.proofs.Common.{arith, ◌+◌, ◌≤◌, ◌^◌, ap, ◌∙◌, length, length-append, ◌∷◌, []}
use Rattle.std.specs.List.{list_all}
use Rattle.workload.specs.Laws.{is_light}
use Rattle.workload.specs.Load.{row_drawn}
use Rattle.workload.proofs.Bounds.{light_more}
use Rattle.workload.proofs.Rows.{row_grows, row_light, rows_more}
use Rattle.workload.proofs.load.draw_patches.Goals as goal

pub loop-round-preserved : goal.loop-round-preserved
loop-round-preserved c =
    let before = c.loop-round.invariant in
    let rows = c.loop-round.patches.rows in
    let len = c.loop-round.len in
    let row = row_drawn len c.loop-round.numbers in
    let added = c.in_ok-len.ensures.added in
    let inside : len ≤ 2 ^ 25 = omega (arith, before.len, c.requires.size, c.requires.rounds, c.loop-round-test.true) in
    record {
      stated = ap (λ file. file.stated) added ∙ before.stated;
      rows = rows_more rows c.draw_row.new.patches.rows c.args.rounds c.loop-round.round len c.loop-round.numbers _ _ _ c.loop-round-test.true (ap (λ file. file.rows) added) c.in_ok-len.ensures.len c.in_ok-len.ensures.state before.rows;
      count = ap (λ file. length file.rows) added ∙ length-append rows (row ∷ []) ∙ ap (λ k. k + 1) before.count;
      light = ap (λ file. list_all (is_light (2 ^ 25)) file.rows) added ∙ light_more rows row before.light (row_light (2 ^ 25) len c.loop-round.numbers inside);
      len = omega (arith, before.len, c.in_ok-len.ensures.len, row_grows len c.loop-round.numbers);
    }
