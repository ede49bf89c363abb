-- What is told of a prefix: there is one answer for each prefix, target, budget and limit, and what it says of the machine.
use Rattle.std.specs.Prelude.{◌≡◌, ◌⊎◌, ℕ, ◌<◌, ◌≤◌, Bool, true, false, Result, Ok, Err, List, [], ◌∷◌, ◌++◌, length, slice_range}
use Rattle.std.specs.List.{flat_map}
use Rattle.fuun_base.specs.declared.letters.Base.{Base}
use Rattle.exec_loop.specs.Run as machine_run
use Rattle.exec_loop.specs.declared.machine.RunEnd.{RunEnd}
use Rattle.exec_loop.specs.declared.machine.RunEnd.TheVariants as run_end
use Rattle.sym_strand.specs.declared.cells.Cell.{Cell}
use Rattle.sym_strand.specs.declared.segments.Seg.{Seg}
use Rattle.sym_strand.specs.declared.segments.Seg.TheVariants.{Known, Target}
use Rattle.explainer.specs.Attempt.{Attempt, IsAttempt, DependsOn}
use Rattle.explainer.specs.Run as run
use Rattle.explainer.specs.Run.{Run, IsRun, Explains, EndsSo}
use Rattle.explainer.specs.declared.explained.Explained.{Explained}
use Rattle.explainer.specs.declared.explained.ExplainError.{ExplainError}
use Rattle.explainer.specs.declared.explained.ExplainError.TheVariants.{Depends, TooLong, NoMemory}

-- the answer for a prefix and a target of so many bases
abbrev pub IsExplained : List Base → ℕ → ℕ → ℕ → Result Explained ExplainError → Type 0
IsExplained prefix target budget limit (Ok found) = Explains prefix target budget limit found
IsExplained prefix target budget limit (Err (Depends attempt)) = EndsSo prefix target budget limit (run.Depends attempt)
IsExplained prefix target budget limit (Err (TooLong attempt)) = EndsSo prefix target budget limit (run.TooLong attempt)
IsExplained prefix target budget limit (Err NoMemory) = ⊥

-- cells have an attempt, or it depends on the target
abbrev pub HasAttemptOrDepends : Type 0
HasAttemptOrDepends = (z : List Cell) (limit : ℕ) → ((attempt : Attempt) × IsAttempt z limit attempt) ⊎ DependsOn z

-- cells have a run
abbrev pub HasRun : Type 0
HasRun = (limit budget : ℕ) (z : List Cell) → (made : Run) × IsRun z budget limit made

-- there is an answer
abbrev pub HasExplanation : Type 0
HasExplanation = (prefix : List Base) (target budget limit : ℕ) → (answer : Result Explained ExplainError) × IsExplained prefix target budget limit answer

-- and only one
abbrev pub ExplanationIsOne : Type 0
ExplanationIsOne =
    (prefix : List Base) (target budget limit : ℕ) (a b : Result Explained ExplainError)
    → IsExplained prefix target budget limit a → IsExplained prefix target budget limit b → a ≡ b

-- each range of the target has a place and lies within so many
abbrev pub RangesWithin : ℕ → List Seg → Type 0
RangesWithin target [] = Unit {0}
RangesWithin target (Known bases ∷ segs) = RangesWithin target segs
RangesWithin target (Target lo hi ∷ segs) = (lo < hi) × (hi ≤ target) × RangesWithin target segs

-- the bases of a segment, with those of a range taken from a target
abbrev pub bases_in : List Base → Seg → List Base
bases_in d (Known bases) = bases
bases_in d (Target lo hi) = slice_range d lo hi

-- the machine's end that is told
abbrev pub told_end : Bool → ℕ → RunEnd
told_end true attempts = run_end.Finished attempts
told_end false attempts = run_end.Budget

-- the machine's run on a prefix and a target is as it was told
pub record IsAsTold (prefix d : List Base) (budget limit : ℕ) (found : Explained) : Type 0 where
  pub made : machine_run.Run
  pub is : machine_run.IsRun (prefix ++ d) budget limit made
  pub ends : made.end ≡ told_end found.finished found.attempts
  pub number : length made.attempts ≡ found.attempts
  pub rna : made.rna ≡ found.rna
  pub dna : made.dna ≡ flat_map (bases_in d) found.segs

-- the machine's run on a prefix and a target has this attempt too long
pub record IsTooLong (prefix d : List Base) (budget limit attempt : ℕ) : Type 0 where
  pub made : machine_run.Run
  pub is : machine_run.IsRun (prefix ++ d) budget limit made
  pub ends : made.end ≡ run_end.TooLong attempt

-- what was found is so for every target of that length
abbrev pub FoundForEveryTarget : Type 0
FoundForEveryTarget =
    (prefix : List Base) (target budget limit : ℕ) (found : Explained) → IsExplained prefix target budget limit (Ok found)
    → RangesWithin target found.segs × ((d : List Base) → length d ≡ target → IsAsTold prefix d budget limit found)

-- an attempt that was found too long is so for every target of that length
abbrev pub TooLongForEveryTarget : Type 0
TooLongForEveryTarget =
    (prefix : List Base) (target budget limit attempt : ℕ) → IsExplained prefix target budget limit (Err (TooLong attempt))
    → (d : List Base) → length d ≡ target → IsTooLong prefix d budget limit attempt
