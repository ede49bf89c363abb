use Rattle.std.proofs.Common.{◌≤◌}
use Rattle.canvas.specs.Pixels.{IsSquare}
use Rattle.flood.specs.Filling.{Continues, work_left}
use Rattle.flood.proofs.spread.spread.Given as goal

abbrev pub invariant-loop-span : goal.invariant-loop-span
invariant-loop-span g l = record {
  goes_on : Continues g.row.SIDE l.from l.to l.initial.bitmap l.initial.work l.bitmap l.work;
  left : work_left l.from l.bitmap l.work ≤ work_left l.from l.initial.bitmap l.initial.work;
  square : IsSquare g.row.SIDE l.bitmap;
}

abbrev pub decreases-loop-span : goal.decreases-loop-span
decreases-loop-span g l = work_left l.from l.bitmap l.work
