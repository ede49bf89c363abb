use Rattle.std.proofs.Common.{◌-◌, arith, sym}
use Rattle.sym_strand.proofs.Places.{get-places, no-places}
use Rattle.sym_strand.proofs.segments.target_cell.Goals as goal

pub returns-then-place-saturating_sub : goal.returns-then-place-saturating_sub
returns-then-place-saturating_sub c = sym (get-places c.args.place c.args.lo (c.args.hi - c.args.lo) (omega arith))

pub returns-else-place-saturating_sub : goal.returns-else-place-saturating_sub
returns-else-place-saturating_sub c = sym (no-places c.args.place c.args.lo (c.args.hi - c.args.lo) (omega arith))
