use Rattle.std.proofs.Common.{◌≡◌, take, length}
use Rattle.std.specs.Prelude.{slice_range}
use Rattle.sym_strand.specs.Segments.{cells_of}
use Rattle.sym_strand.proofs.dna.SymDna.sub.Given as goal

abbrev pub invariant-loop-seg : goal.invariant-loop-seg
invariant-loop-seg l = record {
  part : l.part ≡ slice_range (cells_of (take l.seg-index l.seg-items)) l.lo l.hi;
  start : l.start ≡ length (cells_of (take l.seg-index l.seg-items));
}
