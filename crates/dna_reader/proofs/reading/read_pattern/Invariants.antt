use Rattle.std.proofs.Common.{◌≡◌, ◌-◌, length}
use Rattle.dna_items.specs.Held.{held_pattern_item}
use Rattle.dna_reader.specs.PieceByPiece.{ReadSoFar}
use Rattle.dna_reader.specs.Tables.{pattern_table}
use Rattle.dna_reader.specs.Window.{Shows}
use Rattle.dna_reader.proofs.reading.read_pattern.Given as goal

abbrev pub invariant-loop-items : goal.invariant-loop-items
invariant-loop-items g l = record {
  shows : Shows l.window (g.S.Strand.bases l.s);
  far : ReadSoFar pattern_table held_pattern_item g.T.RnaTaker.follows (g.S.Strand.bases l.s) l.fn.place l.window.place l.groups l.items l.fn.rna l.rna;
  no_fault : g.T.RnaTaker.faults l.rna ≡ g.T.RnaTaker.faults l.fn.rna;
}

abbrev pub decreases-loop-items : goal.decreases-loop-items
decreases-loop-items g l = length (g.S.Strand.bases l.s) - l.window.place
