use Rattle.std.proofs.Common.{◌≡◌, ◌++◌, take}
use Rattle.fuun_base.specs.DnaFile.{bases}
use Rattle.fuun_base.proofs.Reading.{AreClean}
use Rattle.fuun_base.proofs.dna_file.put_each.Given as goal

abbrev pub invariant-loop-index : goal.invariant-loop-index
invariant-loop-index l = record {
  added : l.list.items ≡ l.fn.list.items ++ bases (take l.index l.block);
  clean : AreClean l.block l.index;
}
