use Rattle.std.proofs.Common.{◌≡◌, drop}
use Rattle.std.specs.Prelude.{slice_get}
use Rattle.sym_strand.specs.Segments.{cells_of}
use Rattle.sym_strand.proofs.dna.SymDna.cell.Given as goal

abbrev pub invariant-loop-seg : goal.invariant-loop-seg
invariant-loop-seg l = slice_get l.self l.place ≡ slice_get (cells_of (drop l.seg-index l.seg-items)) l.left
