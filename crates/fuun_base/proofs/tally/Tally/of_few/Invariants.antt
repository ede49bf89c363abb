use Rattle.std.proofs.Common.{◌≡◌, take}
use Rattle.fuun_base.specs.Tally.{tally_of}
use Rattle.fuun_base.proofs.tally.Tally.of_few.Given as goal

abbrev pub invariant-loop-base : goal.invariant-loop-base
invariant-loop-base l = record {
  c : l.c ≡ (tally_of (take l.base-index l.bases)).c;
  f : l.f ≡ (tally_of (take l.base-index l.bases)).f;
  p : l.p ≡ (tally_of (take l.base-index l.bases)).p;
}
