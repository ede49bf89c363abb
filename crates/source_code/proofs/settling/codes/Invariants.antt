use Rattle.std.proofs.Common.{◌≡◌, ◌++◌, drop}
use Rattle.source_code.specs.Kept.{Exact}
use Rattle.source_code.specs.Lengths.{dna}
use Rattle.source_code.proofs.settling.codes.Given as goal

abbrev pub invariant-lines : goal.invariant-lines
invariant-lines l = record {
  exact : Exact (drop l.line-index l.lines) l.behind;
  rest : l.bases.items ++ dna (drop l.line-index l.lines) l.behind ≡ dna l.fn.lines l.fn.behind;
}
