use Rattle.sym_strand.specs.Cells.{start_cells}
use Rattle.explainer.proofs.ByAttempts.{HasMade}
use Rattle.explainer.proofs.explaining.explain_counted.Given as goal

abbrev pub invariant-loop-attempt : goal.invariant-loop-attempt
invariant-loop-attempt g l = HasMade (start_cells l.fn.prefix l.fn.target) l.limit l.attempt l.dna l.rna
