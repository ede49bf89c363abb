use Rattle.std.proofs.Common.{◌≡◌, ◌+◌, ◌*◌}
use Rattle.canvas.specs.Pixels.{IsSquare}
use Rattle.line_draw.specs.Walks.{IsWalked}
use Rattle.line_draw.proofs.draw.walk.Given as goal

abbrev pub invariant-loop-step : goal.invariant-loop-step
invariant-loop-step g l = record {
  x_way : (l.x.start ≡ l.fn.start.x) × (l.x.stop ≡ l.fn.stop.x) × (l.x.steps ≡ l.steps);
  x_place : l.x.at * l.steps + l.x.rest + l._step * l.fn.start.x ≡ l.fn.start.x * l.steps + l.half + l._step * l.fn.stop.x;
  y_way : (l.y.start ≡ l.fn.start.y) × (l.y.stop ≡ l.fn.stop.y) × (l.y.steps ≡ l.steps);
  y_place : l.y.at * l.steps + l.y.rest + l._step * l.fn.start.y ≡ l.fn.start.y * l.steps + l.half + l._step * l.fn.stop.y;
  walked : IsWalked g.row.SIDE l.initial.bitmap l.fn.start l.fn.stop l.steps l.half l._step l.pixel l.bitmap;
  square : IsSquare g.row.SIDE l.bitmap;
}
