use Rattle.std.proofs.Common.{◌≡◌, ◌-◌, ◌≤◌, length, take}
use Rattle.fuun_base.specs.DnaFile.{bases}
use Rattle.fuun_base.proofs.Reading.{AreClean}
use Rattle.fuun_base.proofs.dna_file.read_dna.Given as goal

abbrev pub invariant-loop-done : goal.invariant-loop-done
invariant-loop-done l = record {
  within : l.done ≤ length l.bytes;
  read : l.list.items ≡ bases (take l.done l.bytes);
  clean : AreClean l.bytes l.done;
}

abbrev pub decreases-loop-done : goal.decreases-loop-done
decreases-loop-done l = length l.bytes - l.done
