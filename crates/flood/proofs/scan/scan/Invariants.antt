use Rattle.std.proofs.Common.{◌-◌, ◌≡◌, ◌≢◌, ◌<◌, ◌≤◌, ◌∷◌}
use Rattle.canvas.specs.declared.pixel.Spot.{Spot}
use Rattle.canvas.specs.Pixels.{IsSquare}
use Rattle.flood.specs.declared.span.Span.{Span}
use Rattle.flood.specs.Region.{pixel_of}
use Rattle.flood.specs.Filling.{AreAdjacent, Continues, Covers, work_left}
use Rattle.flood.proofs.scan.scan.Given as goal

abbrev pub invariant-loop-x : goal.invariant-loop-x
invariant-loop-x g l = record {
  goes_on : (held : Span) → AreAdjacent held l.part → Continues g.row.SIDE l.from l.to l.initial.bitmap (held ∷ l.initial.work) l.bitmap (held ∷ l.work);
  clear : (s : Spot) → Covers l.part s → s.x < l.x → pixel_of g.row.SIDE l.bitmap s ≢ l.from;
  start : l.part.start ≤ l.x;
  here : l.x < l.part.stop → pixel_of g.row.SIDE l.bitmap (record { x = l.x; y = l.part.y }) ≡ l.from;
  left : work_left l.from l.bitmap l.work ≤ work_left l.from l.initial.bitmap l.initial.work;
  square : IsSquare g.row.SIDE l.bitmap;
}

abbrev pub decreases-loop-x : goal.decreases-loop-x
decreases-loop-x g l = l.part.stop - l.x
