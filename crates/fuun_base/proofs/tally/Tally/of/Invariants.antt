use Rattle.std.proofs.Common.{◌≡◌, ◌-◌, ◌≤◌, length, take}
use Rattle.fuun_base.specs.Tally.{tally_of}
use Rattle.fuun_base.proofs.tally.Tally.of.Given as goal

abbrev pub invariant-loop-done : goal.invariant-loop-done
invariant-loop-done l = record {
  within : l.done ≤ length l.bases;
  counted : l.tally ≡ tally_of (take l.done l.bases);
}

abbrev pub decreases-loop-done : goal.decreases-loop-done
decreases-loop-done l = length l.bases - l.done
