use Rattle.std.proofs.Common.{arith, refl, sym, ◌∙◌}
use Rattle.canvas.specs.declared.pixel.Spot.{Spot}
use Rattle.flood.specs.Filling.{Covers}
use Rattle.flood.proofs.Parts.{Continues-run, Continues-trans}
use Rattle.flood.proofs.Rows.{clear_more, row_at}
use Rattle.flood.proofs.scan.scan.Goals as goal

pub loop-x-preserved : goal.loop-x-preserved
loop-x-preserved g c =
    let seed : Spot = record { x = c.loop-x.x; y = c.args.part.y } in
    let within : Covers c.args.part seed = (refl, c.loop-x.invariant.start, c.loop-x-test.true) in
    let put = c.put-run.ensures in
    record {
      goes_on =
          λ held adjacent. Continues-trans _ _ _ _ _ _ _ _ _ (c.loop-x.invariant.goes_on held adjacent)
          (Continues-run _ _ _ _ _ _ _ held c.args.part c.put-run.result seed c.requires.differ put.was_square adjacent c.requires.part within put.run put.set put.listed);
      clear =
          clear_more _ _ _ _ _ c.row-in-loop-x.result.now c.args.part c.put-run.result c.loop-x.x _ c.requires.differ put.was_square c.requires.part put.run put.set c.loop-x.invariant.clear c.row-in-loop-x.ensures.value
          c.next-x-in-loop-x.ensures.passed;
      start =
          omega (arith, put.run.covers, c.loop-x.invariant.start, c.next-x-in-loop-x.ensures.from);
      here =
          λ inside.
          let next : Spot = record { x = c.next-x-in-loop-x.result; y = c.args.part.y } in
          let in_row = c.requires.part.inside in
          sym (row_at _ _ c.row-in-loop-x.result.now c.args.part.y c.row-in-loop-x.ensures.value next (omega arith) refl) ∙ c.next-x-in-loop-x.ensures.found inside;
      left = omega (arith, put.left, c.loop-x.invariant.left);
      square = put.square;
    }
