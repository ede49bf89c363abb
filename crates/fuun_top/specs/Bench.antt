-- The load of a bench, and what is told of its run.
use Rattle.std.specs.Prelude.{ℕ, ◌+◌, ◌^◌, List, ◌++◌, length}
use Rattle.fuun_base.specs.declared.letters.Base.{Base}
use Rattle.fuun_base.specs.Tally.{tally_of}
use Rattle.exec_loop.specs.declared.machine.RunEnd.{RunEnd}
use Rattle.exec_loop.specs.declared.machine.RunEnd.TheVariants as end
use Rattle.exec_loop.specs.Run.{Run}
use Rattle.patch_compile.specs.Code.{prefix}
use Rattle.workload.specs.declared.summary.Summary.{Summary}
use Rattle.workload.specs.Load.{patches_of, target_of}
use Rattle.workload.specs.Mark.{mark_of}

-- the most bases that a DNA may have
abbrev pub load_limit : ℕ
load_limit = 2 ^ 26

-- the DNA that the run starts from: the prefix of the load's patches before its target
abbrev pub load_dna : ℕ → ℕ → ℕ → List Base
load_dna seed size rounds = prefix (patches_of seed size rounds).rows ++ target_of seed size

-- what is told of a run
abbrev pub summary_of : Run → Summary
summary_of run = record {
  attempts = length run.attempts;
  tally = tally_of run.dna;
  rna = length run.rna;
  mark = mark_of run.dna;
}

-- how many attempts a run made, by how it ended
abbrev pub attempts_by : ℕ → RunEnd → ℕ
attempts_by budget (end.Finished attempts) = attempts
attempts_by budget end.Budget = budget
attempts_by budget (end.TooLong attempt) = attempt + 1
