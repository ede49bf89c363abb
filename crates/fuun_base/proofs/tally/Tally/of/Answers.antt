use Rattle.std.proofs.Common.{arith, ap}
use Rattle.fuun_base.specs.Tally.{tally_total}
use Rattle.fuun_base.proofs.Counting.{front_total, tally_of_part}
use Rattle.fuun_base.proofs.tally.Tally.of.Goals as goal

pub plus-tally-requires : goal.plus-tally-requires
plus-tally-requires c =
    let d = c.args.bases.now in
    let done = c.loop-done.done in
    let end = c.min-end.result in
    omega (arith, front_total d done c.loop-done.invariant.within, front_total d end (omega arith), ap tally_total (tally_of_part d done end (omega arith)), ap tally_total c.loop-done.invariant.counted, ap tally_total c.of_few.ensures)

pub loop-done-preserved : goal.loop-done-preserved
loop-done-preserved c =
    let part = tally_of_part c.args.bases.now c.loop-done.done c.min-end.result (omega arith) in
    record {
      within = omega arith;
      counted = cc (part, c.plus-tally.ensures, c.of_few.ensures, c.loop-done.invariant.counted);
    }
