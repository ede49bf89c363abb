use Rattle.std.proofs.Common.{◌≡◌, ◌++◌, length, take, drop}
use Rattle.fuun_base.specs.DnaFile.{bases}
use Rattle.fuun_base.proofs.dna_file.fill_letters.Given as goal

abbrev pub invariant-loop-index : goal.invariant-loop-index
invariant-loop-index l = record {
  written : l.slots ≡ bases (take l.index l.block) ++ drop l.index l.initial.slots;
  count : length (bases (take l.index l.block)) ≡ l.index;
}
