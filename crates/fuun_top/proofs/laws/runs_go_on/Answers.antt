use Rattle.fuun_top.proofs.ChainedRuns.{rna_goes_on, dna_goes_on, trace_goes_on}
use Rattle.fuun_top.proofs.laws.runs_go_on.Goals as goal

pub returns-clause-rna : goal.returns-clause-rna
returns-clause-rna c = rna_goes_on

pub returns-clause-dna : goal.returns-clause-dna
returns-clause-dna c = dna_goes_on

pub returns-clause-trace : goal.returns-clause-trace
returns-clause-trace c = trace_goes_on
