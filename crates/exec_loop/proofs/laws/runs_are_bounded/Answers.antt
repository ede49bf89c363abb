use Rattle.exec_loop.proofs.Joined.{run_gives_commands, run_stays_within}
use Rattle.exec_loop.proofs.laws.runs_are_bounded.Goals as goal

pub returns-clause-rna : goal.returns-clause-rna
returns-clause-rna c = run_gives_commands

pub returns-clause-dna : goal.returns-clause-dna
returns-clause-dna c = run_stays_within
