use Rattle.std.proofs.Common.{◌<◌, ◌≤◌, ◌∙◌, ◌*◌, arith, ap, lit<}
use Rattle.canvas.specs.declared.pixel.Spot.{Spot}
use Rattle.line_draw.proofs.Points.{at_above, at_inside, place_below, rest_more, spot_from_rests, walk_more}
use Rattle.line_draw.proofs.draw.walk.Goals as goal

pub set-requires : goal.set-requires
set-requires g c =
    let to_here : c.loop-step._step ≤ c.args.steps = omega arith in (
      lit< tt,
      (
        at_inside c.args.start.x c.args.stop.x g.row.SIDE c.args.steps c.args.half c.loop-step._step c.loop-step.x.at c.loop-step.x.rest c.loop-step.invariant.x_place c.requires.half to_here c.requires.start.0 c.requires.stop.0,
        at_inside c.args.start.y c.args.stop.y g.row.SIDE c.args.steps c.args.half c.loop-step._step c.loop-step.y.at c.loop-step.y.rest c.loop-step.invariant.y_place c.requires.half to_here c.requires.start.1 c.requires.stop.1,
      ),
    )

pub step-requires-clause-below : goal.step-requires-clause-below
step-requires-clause-below g c =
    let to_here : c.loop-step._step ≤ c.args.steps = omega arith in
    let inside = at_inside c.args.start.x c.args.stop.x g.row.SIDE c.args.steps c.args.half c.loop-step._step c.loop-step.x.at c.loop-step.x.rest c.loop-step.invariant.x_place c.requires.half to_here c.requires.start.0 c.requires.stop.0 in
    omega (arith, inside, c.requires.square.small)

pub step-requires-in-loop-step-clause-above : goal.step-requires-in-loop-step-clause-above
step-requires-in-loop-step-clause-above g c =
    let above = at_above c.args.start.y c.args.stop.y c.args.steps c.args.half c.loop-step._step c.loop-step.y.at c.loop-step.y.rest c.loop-step.invariant.y_place c.loop-step-test.true in
    omega (arith, above, c.loop-step.invariant.y_way, ap (λ n. c.loop-step.y.at * n) c.loop-step.invariant.y_way.2)

pub step-requires-in-loop-step-clause-below : goal.step-requires-in-loop-step-clause-below
step-requires-in-loop-step-clause-below g c =
    let to_here : c.loop-step._step ≤ c.args.steps = omega arith in
    let inside = at_inside c.args.start.y c.args.stop.y g.row.SIDE c.args.steps c.args.half c.loop-step._step c.loop-step.y.at c.loop-step.y.rest c.loop-step.invariant.y_place c.requires.half to_here c.requires.start.1 c.requires.stop.1 in
    omega (arith, inside, c.requires.square.small)

pub loop-step-preserved : goal.loop-step-preserved
loop-step-preserved g c =
    let here = c.loop-step.invariant in
    let to_here : c.loop-step._step ≤ c.args.steps = omega arith in
    let s : Spot = record { x = c.loop-step.x.at; y = c.loop-step.y.at } in
    let x_part : c.loop-step.x.rest < c.args.steps = omega (arith, c.loop-step.x.is_part, here.x_way) in
    let y_part : c.loop-step.y.rest < c.args.steps = omega (arith, c.loop-step.y.is_part, here.y_way) in
    let in_x = at_inside c.args.start.x c.args.stop.x g.row.SIDE c.args.steps c.args.half c.loop-step._step c.loop-step.x.at c.loop-step.x.rest here.x_place c.requires.half to_here c.requires.start.0 c.requires.stop.0 in
    let in_y = at_inside c.args.start.y c.args.stop.y g.row.SIDE c.args.steps c.args.half c.loop-step._step c.loop-step.y.at c.loop-step.y.rest here.y_place c.requires.half to_here c.requires.start.1 c.requires.stop.1 in
    let is_spot = spot_from_rests c.args.start c.args.stop s c.args.steps c.args.half c.loop-step._step c.loop-step.x.rest c.loop-step.y.rest x_part y_part here.x_place here.y_place in
    let x_way = c.step.ensures.way in
    let y_way = c.step-in-loop-step.ensures.way in
    record {
      x_way = (x_way.0 ∙ here.x_way.0, x_way.1 ∙ here.x_way.1, x_way.2 ∙ here.x_way.2);
      x_place = rest_more c.args.start.x c.args.stop.x c.args.steps c.args.half c.loop-step._step _ _ _ _ _ _ _ _ here.x_way.0 here.x_way.1 here.x_way.2 (x_way.2 ∙ here.x_way.2) here.x_place c.step.ensures.moved;
      y_way = (y_way.0 ∙ here.y_way.0, y_way.1 ∙ here.y_way.1, y_way.2 ∙ here.y_way.2);
      y_place = rest_more c.args.start.y c.args.stop.y c.args.steps c.args.half c.loop-step._step _ _ _ _ _ _ _ _ here.y_way.0 here.y_way.1 here.y_way.2 (y_way.2 ∙ here.y_way.2) here.y_place c.step-in-loop-step.ensures.moved;
      walked =
          walk_more _ _ _ _ c.args.start c.args.stop c.args.steps c.args.half c.loop-step._step _ s here.square in_x in_y is_spot c.set.ensures.value here.walked
          (λ k before. let le : k ≤ c.args.steps = omega arith in
          (place_below c.args.start.x c.args.stop.x g.row.SIDE c.args.steps c.args.half k c.requires.half le c.requires.start.0 c.requires.stop.0, place_below c.args.start.y c.args.stop.y g.row.SIDE c.args.steps c.args.half k c.requires.half le c.requires.start.1 c.requires.stop.1));
      square = c.set.ensures.square;
    }
