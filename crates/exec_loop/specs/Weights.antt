-- How many steps attempts may make, by their weights.
use Rattle.std.specs.Prelude.{◌≡◌, ℕ, ◌+◌, List, [], ◌∷◌, length}
use Rattle.fuun_base.specs.declared.letters.Base.{Base}
use Rattle.fuun_base.specs.Ticks.{Ticks}
use Rattle.replacer.specs.Replacement.{texts_of}
use Rattle.replacer.specs.Weight.{weight, quoted_bases}
use Rattle.exec_loop.specs.Attempt.{Attempt, Ending, Matched, NoMatch, TooLong, Finished, Rewrites, IsAttempt}
use Rattle.exec_loop.specs.Made.{dna_behind}
use Rattle.exec_loop.specs.Run.{Run, IsRun}
use Rattle.exec_loop.specs.State.{State}

-- what an attempt on d weighs that ends so, on strands of at most this height: where it matched, its template quotes texts of groups
abbrev pub WeighsBy : ℕ → List Base → Attempt → Ending → ℕ → Type 0
WeighsBy height d attempt (Matched stop next) number =
    (rewrites : Rewrites d attempt stop next)
    × (number ≡ weight (length attempt.template) (quoted_bases (texts_of rewrites.rest rewrites.groups) attempt.template) height)
WeighsBy height d attempt (NoMatch next) number = number ≡ weight (length attempt.template) 0 height
WeighsBy height d attempt TooLong number = number ≡ weight (length attempt.template) 0 height
WeighsBy height d attempt Finished number = number ≡ weight (length attempt.template) 0 height

-- what an attempt on d weighs
abbrev pub Weighs : ℕ → List Base → Attempt → ℕ → Type 0
Weighs height d attempt number = WeighsBy height d attempt attempt.ending number

-- what attempts weigh together, the first of them on d and each other one on the DNA behind the one before
abbrev pub WeighTogether : ℕ → List Base → List Attempt → ℕ → Type 0
WeighTogether height d [] total = total ≡ 0
WeighTogether height d (attempt ∷ attempts) total =
    (first : ℕ) × (rest : ℕ) × Weighs height d attempt first × WeighTogether height (dna_behind d attempt.ending) attempts rest × (total ≡ first + rest)

-- at most as many steps as these attempts weigh together
pub record TicksFor (height : ℕ) (d : List Base) (attempts : List Attempt) (old new : ℕ) : Type 0 where
  pub total : ℕ
  pub weigh : WeighTogether height d attempts total
  pub ticks : Ticks old new total

-- at most as many steps as the attempt weighs
abbrev pub TicksForAttempt : ℕ → State → ℕ → ℕ → Type 0
TicksForAttempt height state old new =
    (attempt : Attempt) (number : ℕ) → IsAttempt state.dna state.limit attempt → Weighs height state.dna attempt number → Ticks old new number

-- at most as many steps as the attempts of the run weigh together
abbrev pub TicksForRun : ℕ → ℕ → State → ℕ → ℕ → Type 0
TicksForRun height budget state old new =
    (run : Run) (total : ℕ) → IsRun state.dna budget state.limit run → WeighTogether height state.dna run.attempts total → Ticks old new total
