-- Whole runs: attempts one after the other, as many as the budget allows.
use Rattle.std.specs.Prelude.{◌≡◌, ℕ, ◌+◌, ◌<◌, Some, List, [], ◌∷◌, ◌++◌, length}
use Rattle.fuun_base.specs.declared.letters.Base.{Base}
use Rattle.exec_loop.specs.declared.machine.RunEnd.{RunEnd}
use Rattle.exec_loop.specs.declared.machine.RunEnd.TheVariants.{Finished, Budget, TooLong}
use Rattle.exec_loop.specs.Attempt as one
use Rattle.exec_loop.specs.Attempt.{Attempt, IsAttempt, next_dna}

-- attempts that each give the next DNA, from the first DNA to the last
abbrev pub Leads : ℕ → List Base → List Attempt → List Base → Type 0
Leads limit d [] last = d ≡ last
Leads limit d (attempt ∷ attempts) last =
    IsAttempt d limit attempt
    × ((next : List Base) × (next_dna attempt.ending ≡ Some next) × Leads limit next attempts last)

-- the RNA of attempts, joined
abbrev pub rna_of : List Attempt → List (List Base)
rna_of [] = []
rna_of (attempt ∷ attempts) = attempt.rna ++ rna_of attempts

-- the attempts made in a run
pub record Run : Type 0 where
  pub end : RunEnd
  pub attempts : List Attempt
  pub rna : List (List Base)
  pub dna : List Base

-- the budget is spent: each attempt gave a next DNA
pub record SpendsBudget (d : List Base) (budget limit : ℕ) (run : Run) : Type 0 where
  pub leads : Leads limit d run.attempts run.dna
  pub all : length run.attempts ≡ budget
  pub rna : run.rna ≡ rna_of run.attempts

-- the last attempt, made while the budget was not spent, gave no next DNA but ended so
pub record StopsAt (d : List Base) (budget limit : ℕ) (run : Run) (ending : one.Ending) (before : ℕ) : Type 0 where
  pub earlier : List Attempt
  pub last : Attempt
  pub made : run.attempts ≡ earlier ++ last ∷ []
  pub leads : Leads limit d earlier run.dna
  pub number : length earlier ≡ before
  pub allowed : before < budget
  pub attempt : IsAttempt run.dna limit last
  pub ends : last.ending ≡ ending
  pub rna : run.rna ≡ rna_of run.attempts

-- what makes a run end so
abbrev pub RunsTo : List Base → ℕ → ℕ → Run → RunEnd → Type 0
RunsTo d budget limit run Budget = SpendsBudget d budget limit run
RunsTo d budget limit run (Finished attempts) = (before : ℕ) × (attempts ≡ before + 1) × StopsAt d budget limit run one.Finished before
RunsTo d budget limit run (TooLong attempt) = StopsAt d budget limit run one.TooLong attempt

-- the run on d, with a budget of attempts and a limit on the length of the DNA
abbrev pub IsRun : List Base → ℕ → ℕ → Run → Type 0
IsRun d budget limit run = RunsTo d budget limit run run.end
