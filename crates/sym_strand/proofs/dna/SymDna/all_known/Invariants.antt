use Rattle.std.proofs.Common.{◌≡◌, drop}
use Rattle.sym_strand.specs.Cells.{all_known}
use Rattle.sym_strand.specs.Segments.{cells_of}
use Rattle.sym_strand.proofs.dna.SymDna.all_known.Given as goal

abbrev pub invariant-loop-seg : goal.invariant-loop-seg
invariant-loop-seg l = all_known l.self ≡ all_known (cells_of (drop l.seg-index l.seg-items))
