-- What holds of attempts and of runs.
use Rattle.std.specs.Prelude.{◌≡◌, ℕ, ◌+◌, ◌≤◌, List, ◌++◌, length}
use Rattle.std.specs.List.{AllByRecursion}
use Rattle.fuun_base.specs.declared.letters.Base.{Base}
use Rattle.dna_reader.specs.CommandLaws.{IsCommand}
use Rattle.exec_loop.specs.declared.machine.RunEnd.{RunEnd}
use Rattle.exec_loop.specs.declared.machine.RunEnd.TheVariants.{Finished, Budget, TooLong}
use Rattle.exec_loop.specs.Attempt.{Attempt, IsAttempt}
use Rattle.exec_loop.specs.Run.{Run, IsRun}
use Rattle.exec_loop.specs.Weights.{Weighs, WeighTogether}

-- under every limit each DNA has an attempt
abbrev pub HasAttempt : Type 0
HasAttempt = (d : List Base) (limit : ℕ) → (attempt : Attempt) × IsAttempt d limit attempt

-- and only one
abbrev pub HasOneAttempt : Type 0
HasOneAttempt = (d : List Base) (limit : ℕ) (a b : Attempt) → IsAttempt d limit a → IsAttempt d limit b → a ≡ b

-- for every budget and limit each DNA has a run
abbrev pub HasRun : Type 0
HasRun = (limit budget : ℕ) (d : List Base) → (run : Run) × IsRun d budget limit run

-- and only one
abbrev pub HasOneRun : Type 0
HasOneRun = (limit budget : ℕ) (d : List Base) (a b : Run) → IsRun d budget limit a → IsRun d budget limit b → a ≡ b

-- each attempt has a weight, whatever the height
abbrev pub HasWeight : Type 0
HasWeight = (height : ℕ) (d : List Base) (limit : ℕ) (attempt : Attempt) → IsAttempt d limit attempt → (number : ℕ) × Weighs height d attempt number

-- and only one
abbrev pub HasOneWeight : Type 0
HasOneWeight = (height : ℕ) (d : List Base) (attempt : Attempt) (m n : ℕ) → Weighs height d attempt m → Weighs height d attempt n → m ≡ n

-- the attempts of each run have a weight together
abbrev pub RunHasWeight : Type 0
RunHasWeight = (height budget limit : ℕ) (d : List Base) (run : Run) → IsRun d budget limit run → (total : ℕ) × WeighTogether height d run.attempts total

-- and only one
abbrev pub RunHasOneWeight : Type 0
RunHasOneWeight = (height : ℕ) (d : List Base) (attempts : List Attempt) (m n : ℕ) → WeighTogether height d attempts m → WeighTogether height d attempts n → m ≡ n

-- how a run ends, with so many attempts before it
abbrev pub end_behind : ℕ → RunEnd → RunEnd
end_behind made (Finished attempts) = Finished (made + attempts)
end_behind made Budget = Budget
end_behind made (TooLong attempt) = TooLong (made + attempt)

-- a run in two parts, of which the first made so many attempts
pub record IsInParts (made : ℕ) (first second whole : Run) : Type 0 where
  pub end : whole.end ≡ end_behind made second.end
  pub attempts : whole.attempts ≡ first.attempts ++ second.attempts
  pub rna : whole.rna ≡ first.rna ++ second.rna
  pub dna : whole.dna ≡ second.dna

-- a run that spent its budget goes on from the DNA that it left: with both budgets it is in these two parts
abbrev pub RunGoesOn : Type 0
RunGoesOn =
    (limit a b : ℕ) (d : List Base) (first second whole : Run)
    → IsRun d a limit first → first.end ≡ Budget → IsRun first.dna b limit second → IsRun d (a + b) limit whole → IsInParts a first second whole

-- the RNA of a run is of commands
abbrev pub RunGivesCommands : Type 0
RunGivesCommands = (limit budget : ℕ) (d : List Base) (run : Run) → IsRun d budget limit run → AllByRecursion IsCommand run.rna

-- a DNA within the limit is run to one within it
abbrev pub RunStaysWithin : Type 0
RunStaysWithin = (limit budget : ℕ) (d : List Base) (run : Run) → IsRun d budget limit run → length d ≤ limit → length run.dna ≤ limit
