-- What holds of attempts and runs on cells, and what they say of the machine.
use Rattle.std.specs.Prelude.{◌≡◌, ◌≢◌, ℕ, List, ◌++◌, length}
use Rattle.fuun_base.specs.declared.letters.Base.{Base}
use Rattle.dna_items.specs.declared.items.PatItem.{PatItem}
use Rattle.dna_reader.specs.Reading.{Table, Read, ReadsFrom}
use Rattle.exec_loop.specs.Attempt as machine
use Rattle.exec_loop.specs.Run as machine_run
use Rattle.exec_loop.specs.declared.machine.RunEnd.{RunEnd}
use Rattle.exec_loop.specs.declared.machine.RunEnd.TheVariants as run_end
use Rattle.sym_strand.specs.declared.cells.Cell.{Cell}
use Rattle.sym_strand.specs.Cells.{start_cells}
use Rattle.explainer.specs.Filling.{fill}
use Rattle.explainer.specs.Leading.{LeadAlong, FailAlong, DependAlong}
use Rattle.explainer.specs.Attempt.{Attempt, IsAttempt, DependsOn, filled}
use Rattle.explainer.specs.Run.{End, Finished, Budget, TooLong, Depends, Run, IsRun, rna_of}

-- a reading that comes to its end is that of each longer DNA, and leaves as much more
abbrev pub ReadsLonger : {Item : Type 0} → Table Item → Type 0
ReadsLonger {Item} table =
    (groups : ℕ) (w more : List Base) (items : List Item) (rna : List (List Base)) (rest : List Base)
    → ReadsFrom table groups w (Read items rna rest) → ReadsFrom table groups (w ++ more) (Read items rna (rest ++ more))

-- items that lead through places neither fail nor depend on the target, and those that fail don't depend on it
abbrev pub LeadsAreNoFailures : Type 0
LeadsAreNoFailures = (z : List Cell) (items : List PatItem) (i : ℕ) (places : List ℕ) → LeadAlong z items i places → FailAlong z items i → ⊥

abbrev pub LeadsDoNotDepend : Type 0
LeadsDoNotDepend = (z : List Cell) (items : List PatItem) (i : ℕ) (places : List ℕ) → LeadAlong z items i places → DependAlong z items i → ⊥

abbrev pub FailuresDoNotDepend : Type 0
FailuresDoNotDepend = (z : List Cell) (items : List PatItem) (i : ℕ) → FailAlong z items i → DependAlong z items i → ⊥

-- cells have at most one attempt
abbrev pub HasOneAttempt : Type 0
HasOneAttempt = (z : List Cell) (limit : ℕ) (a b : Attempt) → IsAttempt z limit a → IsAttempt z limit b → a ≡ b

-- and none where it depends on the target
abbrev pub AttemptsDoNotDepend : Type 0
AttemptsDoNotDepend = (z : List Cell) (limit : ℕ) (a : Attempt) → IsAttempt z limit a → DependsOn z → ⊥

-- cells have at most one run
abbrev pub HasOneRun : Type 0
HasOneRun = (limit budget : ℕ) (z : List Cell) (a b : Run) → IsRun z budget limit a → IsRun z budget limit b → a ≡ b

-- the attempt on cells is the machine's on what they stand for in a target, whatever that is
abbrev pub AttemptIsFilled : Type 0
AttemptIsFilled = (z : List Cell) (limit : ℕ) (a : Attempt) (d : List Base) → IsAttempt z limit a → machine.IsAttempt (fill d z) limit (filled d a)

-- the machine's end, where that of a run on cells does not depend on the target
abbrev pub EndsAlike : End → RunEnd → Type 0
EndsAlike (Finished attempts) end = end ≡ run_end.Finished attempts
EndsAlike Budget end = end ≡ run_end.Budget
EndsAlike (TooLong attempt) end = end ≡ run_end.TooLong attempt
EndsAlike (Depends attempt) end = ⊥

-- the machine's run on a prefix and a target ends as that on cells, with as many attempts, the same RNA, and the DNA that
-- the last cells stand for
pub record RunsAlike (prefix d : List Base) (budget limit : ℕ) (run : Run) : Type 0 where
  pub made : machine_run.Run
  pub is : machine_run.IsRun (prefix ++ d) budget limit made
  pub ends : EndsAlike run.end made.end
  pub number : length made.attempts ≡ length run.attempts
  pub rna : made.rna ≡ rna_of run.attempts
  pub dna : made.dna ≡ fill d run.cells

-- a run on cells that does not depend on the target is the machine's run for every target of that length
abbrev pub RunIsFilled : Type 0
RunIsFilled =
    (prefix : List Base) (target budget limit : ℕ) (run : Run) (d : List Base) → length d ≡ target
    → IsRun (start_cells prefix target) budget limit run → ((attempt : ℕ) → run.end ≢ Depends attempt)
    → RunsAlike prefix d budget limit run
