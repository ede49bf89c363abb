-- What one attempt leaves that was made, and what a run leaves.
use Rattle.std.specs.Prelude.{◌≡◌, ℕ, ◌+◌, ◌*◌, ◌^◌, ◌<◌, ◌≤◌, List, [], ◌∷◌, ◌++◌, length}
use Rattle.fuun_base.specs.declared.letters.Base.{Base}
use Rattle.dna_items.specs.Held.{held_pattern, held_template}
use Rattle.exec_loop.specs.declared.machine.Outcome.{Outcome}
use Rattle.exec_loop.specs.declared.machine.Outcome.TheVariants as outcome
use Rattle.exec_loop.specs.declared.machine.Report.{Report}
use Rattle.exec_loop.specs.declared.machine.RunEnd.{RunEnd}
use Rattle.exec_loop.specs.Attempt.{Attempt, Ending, Matched, NoMatch, TooLong, Finished, IsAttempt}
use Rattle.exec_loop.specs.Run.{Run, IsRun, Leads, rna_of}
use Rattle.exec_loop.specs.State.{State}

-- the outcome that is reported of an ending
abbrev pub outcome_of : Ending → Outcome
outcome_of (Matched stop next) = outcome.Matched stop
outcome_of (NoMatch next) = outcome.NoMatch
outcome_of TooLong = outcome.TooLong
outcome_of Finished = outcome.Finished

-- the DNA behind an attempt: the next one, or the one before it where there is none
abbrev pub dna_behind : List Base → Ending → List Base
dna_behind d (Matched stop next) = next
dna_behind d (NoMatch next) = next
dna_behind d TooLong = d
dna_behind d Finished = d

-- the machine made its attempt: this is reported, and the taker has exactly its RNA
pub record MakesAttempt {Taker : Type 0} (follows : Taker → List (List Base) → Taker → Type 0) (old_taker new_taker : Taker) (old new : State) (report : Report) : Type 0 where
  pub attempt : Attempt
  pub is : IsAttempt old.dna old.limit attempt
  pub pattern : report.pattern ≡ held_pattern attempt.pattern
  pub template : report.template ≡ held_template attempt.template
  pub outcome : report.outcome ≡ outcome_of attempt.ending
  pub dna : new.dna ≡ dna_behind old.dna attempt.ending
  pub taken : follows old_taker attempt.rna new_taker

-- the taker stands within the RNA of the attempt on this DNA
pub record StandsWithinAttempt {Taker : Type 0} (within : Taker → List (List Base) → Taker → Type 0) (old_taker new_taker : Taker) (state : State) : Type 0 where
  pub attempt : Attempt
  pub is : IsAttempt state.dna state.limit attempt
  pub stands : within old_taker attempt.rna new_taker

-- the machine made its run, which ended so, and the taker has exactly its RNA
pub record MakesRun {Taker : Type 0} (follows : Taker → List (List Base) → Taker → Type 0) (old_taker new_taker : Taker) (old new : State) (budget : ℕ) (end : RunEnd) : Type 0 where
  pub run : Run
  pub is : IsRun old.dna budget old.limit run
  pub ends : run.end ≡ end
  pub dna : run.dna ≡ new.dna
  pub taken : follows old_taker run.rna new_taker

-- the run broke off in the attempt behind those that were made: the DNA is the one before it,
-- and the taker has exactly the RNA of those made, and then stands within that of this attempt, and so within that of the run
pub record BreaksOff {Taker : Type 0} (follows within : Taker → List (List Base) → Taker → Type 0) (old_taker new_taker : Taker) (old new : State) (budget : ℕ) : Type 0 where
  pub made : List Attempt
  pub allowed : length made < budget
  pub leads : Leads old.limit old.dna made new.dna
  pub middle : Taker
  pub gave : follows old_taker (rna_of made) middle
  pub part : StandsWithinAttempt within middle new_taker new
  pub run : Run
  pub is : IsRun old.dna budget old.limit run
  pub left : List Attempt
  pub front : run.attempts ≡ made ++ part.attempt ∷ left
  pub stands : within old_taker run.rna new_taker

-- the attempts of a run that broke off: those that were made, and the one in which it did
abbrev pub tried : {Taker : Type 0} {follows within : Taker → List (List Base) → Taker → Type 0} {old_taker new_taker : Taker} {old new : State} {budget : ℕ} → BreaksOff follows within old_taker new_taker old new budget → List Attempt
tried broken = broken.made ++ broken.part.attempt ∷ []

-- a bound on what was taken: so many commands, at most, for each attempt of the run
abbrev pub TakesForRun : ℕ → State → ℕ → ℕ → Type 0
TakesForRun budget old old_taken new_taken =
    (run : Run) → IsRun old.dna budget old.limit run → new_taken ≤ old_taken + 2 ^ 41 * length run.attempts
