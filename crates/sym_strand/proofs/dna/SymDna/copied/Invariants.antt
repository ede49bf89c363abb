use Rattle.std.proofs.Common.{◌≡◌, take}
use Rattle.sym_strand.proofs.dna.SymDna.copied.Given as goal

abbrev pub invariant-loop-seg : goal.invariant-loop-seg
invariant-loop-seg l = l.segs.items ≡ take l.seg-index l.seg-items
