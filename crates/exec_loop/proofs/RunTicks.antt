-- The steps of a run, attempt by attempt.
use Rattle.std.proofs.Common.{◌≡◌, ℕ, ◌+◌, ◌^◌, ◌<◌, ◌≤◌, Some, None, List, [], ◌∷◌, ◌++◌, arith, refl, sym, ap, subst, ◌∙◌}
use Rattle.fuun_base.specs.declared.letters.Base.{Base}
use Rattle.fuun_base.specs.Ticks.{Ticks}
use Rattle.exec_loop.specs.declared.machine.Report.{Report}
use Rattle.exec_loop.specs.declared.machine.RunEnd.{RunEnd}
use Rattle.exec_loop.specs.declared.machine.RunEnd.TheVariants.{Budget}
use Rattle.exec_loop.specs.Attempt.{Attempt, IsAttempt}
use Rattle.exec_loop.specs.Run.{Run}
use Rattle.exec_loop.specs.State.{State, IsLimited}
use Rattle.exec_loop.specs.Made.{MakesAttempt, StandsWithinAttempt, BreaksOff, tried}
use Rattle.exec_loop.specs.Weights.{Weighs, WeighTogether, TicksFor, TicksForAttempt, TicksForRun}
use Rattle.exec_loop.specs.RunEnds.{run_end}
use Rattle.exec_loop.proofs.Parts.{GoesOn, GoesWithin, Widens}
use Rattle.exec_loop.proofs.Runs.{one_run}
use Rattle.exec_loop.proofs.Weighing.{has_weight, weigh_more, front_weighs}
use Rattle.exec_loop.proofs.AttemptByAttempt.{BeginsWith, begins_with_all, IsMade, none_made, one_more, spent_run, ended_run, run_breaks_off, broken_begins}

-- what the attempts that a run begins with may tick is within what all of its attempts may
pub ticks_for_run : (height budget limit : ℕ) (d : List Base) (attempts : List Attempt) (old new : ℕ) → BeginsWith d budget limit attempts → TicksFor height d attempts old new → TicksForRun height budget (record { dna = d; limit = limit }) old new
ticks_for_run height budget limit d attempts old new begins x run total is weigh =
    let same : begins.run ≡ run = one_run limit budget d begins.run run begins.is is in
    let all : run.attempts ≡ attempts ++ begins.left = ap (λ (r : Run). r.attempts) (sym same) ∙ begins.front in
    let within : x.total ≤ total = front_weighs height d attempts begins.left x.total total x.weigh (subst (λ l. WeighTogether height d l total) all weigh) in
    let grows : old ≤ new = x.ticks.0 in
    let most : new ≤ old + x.total = x.ticks.1 in (grows, omega arith)

-- the attempts made so far, within whose weights the counter rose
pub record IsMadeAndPaid {Taker : Type 0} (follows : Taker → List (List Base) → Taker → Type 0) (faults taken : Taker → ℕ) (bound : ℕ → ℕ) (old_taker new_taker : Taker) (old new : State) (number old_steps new_steps : ℕ) : Type 0 where
  pub made : IsMade follows faults taken old_taker new_taker old new number
  pub total : ℕ
  pub weigh : WeighTogether (bound old.limit) old.dna made.attempts total
  pub ticks : Ticks old_steps new_steps total

module _ {Taker : Type 0} (follows within : Taker → List (List Base) → Taker → Type 0) (faults taken : Taker → ℕ) (bound : ℕ → ℕ) where
  pub none_paid : ((a : Taker) → follows a [] a) → (taker : Taker) (state : State) (steps : ℕ) → IsLimited state → IsMadeAndPaid follows faults taken bound taker taker state state 0 steps steps
  unfolding none_made
  none_paid stays taker state steps limited = record {
    made = none_made follows within faults taken stays taker state limited;
    total = 0;
    weigh = refl;
    ticks = (omega arith, omega arith);
  }

  -- an attempt more was tried
  tried_ticks : (old_taker taker : Taker) (old state : State) (number old_steps steps new_steps : ℕ) (x : IsMadeAndPaid follows faults taken bound old_taker taker old state number old_steps steps) (attempt : Attempt)
      → IsAttempt state.dna state.limit attempt → TicksForAttempt (bound state.limit) state steps new_steps → TicksFor (bound old.limit) old.dna (x.made.attempts ++ attempt ∷ []) old_steps new_steps
  tried_ticks old_taker taker old state number old_steps steps new_steps x attempt is ticks =
      let w : (n : ℕ) × Weighs (bound state.limit) state.dna attempt n = has_weight (bound state.limit) state.dna state.limit attempt is in
      let weighs : Weighs (bound old.limit) state.dna attempt w.0 = subst (λ limit. Weighs (bound limit) state.dna attempt w.0) x.made.same_limit w.1 in
      let more : Ticks steps new_steps w.0 = ticks attempt w.0 is w.1 in
      let before : Ticks old_steps steps x.total = x.ticks in
      record {
        total = x.total + w.0;
        weigh = weigh_more (bound old.limit) old.limit old.dna x.made.attempts state.dna attempt x.total w.0 x.made.leads x.weigh weighs;
        ticks = (omega (arith, more.0, before.0), omega (arith, more.1, before.1));
      }

  pub one_more_paid : GoesOn follows → (old_taker taker new_taker : Taker) (old state new : State) (number : ℕ) (report : Report) (old_steps steps new_steps : ℕ)
      → IsMadeAndPaid follows faults taken bound old_taker taker old state number old_steps steps
      → MakesAttempt follows taker new_taker state new report → new.limit ≡ state.limit → IsLimited new → run_end report.outcome number ≡ None
      → faults new_taker ≡ faults taker → taken new_taker ≤ taken taker + 2 ^ 41 → TicksForAttempt (bound state.limit) state steps new_steps
      → IsMadeAndPaid follows faults taken bound old_taker new_taker old new (number + 1) old_steps new_steps
  unfolding one_more
  one_more_paid goes_on old_taker taker new_taker old state new number report old_steps steps new_steps x step limit limited none same_faults few ticks =
      let all : TicksFor (bound old.limit) old.dna (x.made.attempts ++ step.attempt ∷ []) old_steps new_steps =
      tried_ticks old_taker taker old state number old_steps steps new_steps x step.attempt step.is ticks in
      record {
        made = one_more follows within faults taken goes_on old_taker taker new_taker old state new number report x.made step limit limited none same_faults few;
        total = all.total;
        weigh = all.weigh;
        ticks = all.ticks;
      }

  pub spent_ticks : (old_taker new_taker : Taker) (old new : State) (budget old_steps new_steps : ℕ) → IsMadeAndPaid follows faults taken bound old_taker new_taker old new budget old_steps new_steps
      → TicksForRun (bound old.limit) budget old old_steps new_steps
  spent_ticks old_taker new_taker old new budget old_steps new_steps x =
      ticks_for_run (bound old.limit) budget old.limit old.dna x.made.attempts old_steps new_steps
      (begins_with_all old.dna budget old.limit x.made.attempts Budget new.dna (spent_run follows within faults taken old_taker new_taker old new budget x.made))
      (record { total = x.total; weigh = x.weigh; ticks = x.ticks })

  pub ended_ticks : (old_taker taker new_taker : Taker) (old state new : State) (budget number : ℕ) (report : Report) (end : RunEnd) (old_steps steps new_steps : ℕ)
      → IsMadeAndPaid follows faults taken bound old_taker taker old state number old_steps steps
      → MakesAttempt follows taker new_taker state new report → run_end report.outcome number ≡ Some end → number < budget → TicksForAttempt (bound state.limit) state steps new_steps
      → TicksForRun (bound old.limit) budget old old_steps new_steps
  ended_ticks old_taker taker new_taker old state new budget number report end old_steps steps new_steps x step some allowed ticks =
      ticks_for_run (bound old.limit) budget old.limit old.dna (x.made.attempts ++ step.attempt ∷ []) old_steps new_steps
      (begins_with_all old.dna budget old.limit (x.made.attempts ++ step.attempt ∷ []) end new.dna (ended_run follows within faults taken old_taker taker new_taker old state new budget number report end x.made step some allowed))
      (tried_ticks old_taker taker old state number old_steps steps new_steps x step.attempt step.is ticks)

  -- a run that broke off, and the steps of the attempts that were tried
  pub broken_paid : GoesWithin follows within → Widens within → (old_taker taker new_taker : Taker) (old state new : State) (budget number old_steps steps new_steps : ℕ)
      → IsMadeAndPaid follows faults taken bound old_taker taker old state number old_steps steps
      → number < budget → StandsWithinAttempt within taker new_taker state → new ≡ state → TicksForAttempt (bound state.limit) state steps new_steps
      → (broken : BreaksOff follows within old_taker new_taker old new budget) × TicksFor (bound old.limit) old.dna (tried broken) old_steps new_steps
  unfolding run_breaks_off
  broken_paid goes_within widens old_taker taker new_taker old state new budget number old_steps steps new_steps x allowed part same ticks = (
    run_breaks_off follows within faults taken goes_within widens old_taker taker new_taker old state new budget number x.made allowed part same,
    tried_ticks old_taker taker old state number old_steps steps new_steps x part.attempt part.is ticks,
  )

  pub broken_ticks : GoesWithin follows within → Widens within → (old_taker taker new_taker : Taker) (old state new : State) (budget number old_steps steps new_steps : ℕ)
      → IsMadeAndPaid follows faults taken bound old_taker taker old state number old_steps steps
      → number < budget → StandsWithinAttempt within taker new_taker state → new ≡ state → TicksForAttempt (bound state.limit) state steps new_steps
      → TicksForRun (bound old.limit) budget old old_steps new_steps
  broken_ticks goes_within widens old_taker taker new_taker old state new budget number old_steps steps new_steps x allowed part same ticks =
      let y : (broken : BreaksOff follows within old_taker new_taker old new budget) × TicksFor (bound old.limit) old.dna (tried broken) old_steps new_steps =
      broken_paid goes_within widens old_taker taker new_taker old state new budget number old_steps steps new_steps x allowed part same ticks in
      ticks_for_run (bound old.limit) budget old.limit old.dna (tried y.0) old_steps new_steps (broken_begins follows within faults taken old_taker new_taker old new budget y.0) y.1
