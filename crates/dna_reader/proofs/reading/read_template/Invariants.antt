use Rattle.std.proofs.Common.{◌≡◌, ◌-◌, length}
use Rattle.dna_items.specs.Held.{held_template_item}
use Rattle.dna_reader.specs.PieceByPiece.{ReadSoFar}
use Rattle.dna_reader.specs.Tables.{template_table}
use Rattle.dna_reader.specs.Window.{Shows}
use Rattle.dna_reader.proofs.reading.read_template.Given as goal

abbrev pub invariant-loop-items : goal.invariant-loop-items
invariant-loop-items g l = record {
  shows : Shows l.window (g.S.Strand.bases l.s);
  far : ReadSoFar template_table held_template_item g.T.RnaTaker.follows (g.S.Strand.bases l.s) l.fn.place l.window.place 0 l.items l.fn.rna l.rna;
  no_fault : g.T.RnaTaker.faults l.rna ≡ g.T.RnaTaker.faults l.fn.rna;
}

abbrev pub decreases-loop-items : goal.decreases-loop-items
decreases-loop-items g l = length (g.S.Strand.bases l.s) - l.window.place
