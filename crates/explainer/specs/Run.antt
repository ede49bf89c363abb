-- Whole runs on cells.
use Rattle.std.specs.Prelude.{◌≡◌, ℕ, ◌+◌, ◌<◌, Bool, true, false, Some, List, [], ◌∷◌, ◌++◌, length}
use Rattle.fuun_base.specs.declared.letters.Base.{Base}
use Rattle.sym_strand.specs.declared.cells.Cell.{Cell}
use Rattle.sym_strand.specs.Cells.{start_cells}
use Rattle.sym_strand.specs.Segments.{StandFor}
use Rattle.explainer.specs.Attempt as one
use Rattle.explainer.specs.Attempt.{Attempt, IsAttempt, DependsOn, next_cells}
use Rattle.explainer.specs.declared.explained.Explained.{Explained}

-- how a run on cells ends: an attempt that depends on the target ends it too
pub data End : Type 0 where
  Finished : ℕ → End
  Budget : End
  TooLong : ℕ → End
  Depends : ℕ → End

-- attempts that each give the next cells, from the first cells to the last
abbrev pub LeadOn : ℕ → List Cell → List Attempt → List Cell → Type 0
LeadOn limit z [] last = z ≡ last
LeadOn limit z (attempt ∷ attempts) last =
    IsAttempt z limit attempt
    × ((next : List Cell) × (next_cells attempt.ending ≡ Some next) × LeadOn limit next attempts last)

-- the RNA of attempts, joined
abbrev pub rna_of : List Attempt → List (List Base)
rna_of [] = []
rna_of (attempt ∷ attempts) = attempt.rna ++ rna_of attempts

-- a run on cells: the attempts that were made, and the last cells
pub record Run : Type 0 where
  pub end : End
  pub attempts : List Attempt
  pub cells : List Cell

-- the budget is spent: each attempt gave the next cells
pub record SpendsBudget (z : List Cell) (budget limit : ℕ) (run : Run) : Type 0 where
  pub leads : LeadOn limit z run.attempts run.cells
  pub all : length run.attempts ≡ budget

-- the last attempt, made while the budget was not spent, gave no next cells but ended so
pub record StopsAt (z : List Cell) (budget limit : ℕ) (run : Run) (ending : one.Ending) (before : ℕ) : Type 0 where
  pub earlier : List Attempt
  pub last : Attempt
  pub made : run.attempts ≡ earlier ++ last ∷ []
  pub leads : LeadOn limit z earlier run.cells
  pub number : length earlier ≡ before
  pub allowed : before < budget
  pub attempt : IsAttempt run.cells limit last
  pub ends : last.ending ≡ ending

-- the next attempt, for which the budget was not spent, depends on the target
pub record DependsAt (z : List Cell) (budget limit : ℕ) (run : Run) (before : ℕ) : Type 0 where
  pub leads : LeadOn limit z run.attempts run.cells
  pub number : length run.attempts ≡ before
  pub allowed : before < budget
  pub depends : DependsOn run.cells

-- what makes a run on cells end so
abbrev pub RunsTo : List Cell → ℕ → ℕ → Run → End → Type 0
RunsTo z budget limit run Budget = SpendsBudget z budget limit run
RunsTo z budget limit run (Finished attempts) = (before : ℕ) × (attempts ≡ before + 1) × StopsAt z budget limit run one.Finished before
RunsTo z budget limit run (TooLong attempt) = StopsAt z budget limit run one.TooLong attempt
RunsTo z budget limit run (Depends attempt) = DependsAt z budget limit run attempt

-- the run on cells, with a budget of attempts and a limit on their number
abbrev pub IsRun : List Cell → ℕ → ℕ → Run → Type 0
IsRun z budget limit run = RunsTo z budget limit run run.end

-- the end of a run that finished after so many attempts, or spent its budget
abbrev pub end_of : Bool → ℕ → End
end_of true attempts = Finished attempts
end_of false attempts = Budget

-- the run of a prefix and a target of so many bases is told: its end, its attempts, its RNA, and segments for its last cells
pub record Explains (prefix : List Base) (target budget limit : ℕ) (found : Explained) : Type 0 where
  pub run : Run
  pub is : IsRun (start_cells prefix target) budget limit run
  pub ends : run.end ≡ end_of found.finished found.attempts
  pub number : length run.attempts ≡ found.attempts
  pub rna : found.rna ≡ rna_of run.attempts
  pub segs : StandFor found.segs run.cells

-- the run of a prefix and a target of so many bases ends so
pub record EndsSo (prefix : List Base) (target budget limit : ℕ) (end : End) : Type 0 where
  pub run : Run
  pub is : IsRun (start_cells prefix target) budget limit run
  pub ends : run.end ≡ end
