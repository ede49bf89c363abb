-- A run, attempt by attempt.
use Rattle.std.proofs.Common.{◌≡◌, ℕ, ◌+◌, ◌-◌, ◌*◌, ◌^◌, ◌<◌, ◌≤◌, Some, None, List, [], ◌∷◌, ◌++◌, length, arith, refl, sym, ap, subst, ◌∙◌, append-nil, append_assoc, length-append}
use Rattle.std.proofs.lemmas.Option.{none-some, same_Some}
use Rattle.fuun_base.specs.declared.letters.Base.{Base}
use Rattle.exec_loop.specs.declared.machine.Report.{Report}
use Rattle.exec_loop.specs.declared.machine.RunEnd.{RunEnd}
use Rattle.exec_loop.specs.declared.machine.RunEnd.TheVariants.{Budget}
use Rattle.exec_loop.specs.Attempt.{Ending, Matched, NoMatch, TooLong, Finished, Attempt, IsAttempt, next_dna}
use Rattle.exec_loop.specs.Run.{Leads, rna_of, Run, StopsAt, RunsTo, IsRun}
use Rattle.exec_loop.specs.State.{State, IsLimited}
use Rattle.exec_loop.specs.Made.{outcome_of, dna_behind, MakesAttempt, StandsWithinAttempt, MakesRun, BreaksOff, TakesForRun}
use Rattle.exec_loop.specs.RunEnds.{run_end}
use Rattle.exec_loop.proofs.Parts.{GoesOn, GoesWithin, Widens}
use Rattle.exec_loop.proofs.Runs.{end_at, runs_at, one_run, RunWith, run_with, RunBehind, run_behind_chain}

-- one attempt more

pub leads_more : (limit : ℕ) (d : List Base) (attempts : List Attempt) (before : List Base) (attempt : Attempt) (next : List Base) → Leads limit d attempts before → IsAttempt before limit attempt → next_dna attempt.ending ≡ Some next → Leads limit d (attempts ++ attempt ∷ []) next
leads_more limit d [] before attempt next leads is goes = (subst (λ e. IsAttempt e limit attempt) (sym leads) is, (next, goes, refl))
leads_more limit d (first ∷ attempts) before attempt next leads is goes = (leads.0, (leads.1.0, leads.1.1, leads_more limit leads.1.0 attempts before attempt next leads.1.2 is goes))

pub rna_of_more : (attempts : List Attempt) (attempt : Attempt) → rna_of (attempts ++ attempt ∷ []) ≡ rna_of attempts ++ attempt.rna
rna_of_more [] attempt = append-nil attempt.rna
rna_of_more (first ∷ attempts) attempt = ap (λ l. first.rna ++ l) (rna_of_more attempts attempt) ∙ sym (append_assoc first.rna (rna_of attempts) attempt.rna)

pub next_is_there : (d : List Base) (ending : Ending) (before : ℕ) → run_end (outcome_of ending) before ≡ None → next_dna ending ≡ Some (dna_behind d ending)
next_is_there d (Matched stop next) before none = refl
next_is_there d (NoMatch next) before none = refl
next_is_there d TooLong before none = absurd (none-some _ (sym none))
next_is_there d Finished before none = absurd (none-some _ (sym none))

-- a run ends with an ending that gives no next DNA
pub record EndsThere (d : List Base) (ending : Ending) (before : ℕ) (end : RunEnd) : Type 0 where
  pub is : end_at ending before ≡ end
  pub none : next_dna ending ≡ None
  pub stays : dna_behind d ending ≡ d

pub ends_there : (d : List Base) (ending : Ending) (before : ℕ) (end : RunEnd) → run_end (outcome_of ending) before ≡ Some end → EndsThere d ending before end
unfolding end_at
ends_there d (Matched stop next) before end some = absurd (none-some end some)
ends_there d (NoMatch next) before end some = absurd (none-some end some)
ends_there d TooLong before end some = record { is = same_Some _ end some; none = refl; stays = refl }
ends_there d Finished before end some = record { is = same_Some _ end some; none = refl; stays = refl }

-- the attempts of the run begin with these
pub record BeginsWith (d : List Base) (budget limit : ℕ) (attempts : List Attempt) : Type 0 where
  pub run : Run
  pub is : IsRun d budget limit run
  pub left : List Attempt
  pub front : run.attempts ≡ attempts ++ left

-- the run has exactly these attempts
pub record RunOf (d : List Base) (budget limit : ℕ) (attempts : List Attempt) (end : RunEnd) (dna : List Base) : Type 0 where
  pub run : Run
  pub is : IsRun d budget limit run
  pub all : run.attempts ≡ attempts
  pub ends : run.end ≡ end
  pub gives : run.rna ≡ rna_of attempts
  pub behind : run.dna ≡ dna

pub begins_with_all : (d : List Base) (budget limit : ℕ) (attempts : List Attempt) (end : RunEnd) (dna : List Base) → RunOf d budget limit attempts end dna → BeginsWith d budget limit attempts
begins_with_all d budget limit attempts end dna x = record { run = x.run; is = x.is; left = []; front = x.all ∙ sym (append-nil attempts) }

-- no fewer attempts are made in the run
pub begins_within : (d : List Base) (budget limit : ℕ) (attempts : List Attempt) (run : Run) → BeginsWith d budget limit attempts → IsRun d budget limit run → length attempts ≤ length run.attempts
begins_within d budget limit attempts run x is =
    let same : x.run ≡ run = one_run limit budget d x.run run x.is is in
    omega (arith, ap length (ap (λ (r : Run). r.attempts) same), ap length x.front, length-append attempts x.left)

-- attempts of a run that were made so far, each of which gave a next DNA
pub record IsMade {Taker : Type 0} (follows : Taker → List (List Base) → Taker → Type 0) (faults taken : Taker → ℕ) (old_taker new_taker : Taker) (old new : State) (number : ℕ) : Type 0 where
  pub attempts : List Attempt
  pub leads : Leads old.limit old.dna attempts new.dna
  pub count : length attempts ≡ number
  pub gave : follows old_taker (rna_of attempts) new_taker
  pub same_limit : new.limit ≡ old.limit
  pub limited : IsLimited new
  pub same_faults : faults new_taker ≡ faults old_taker
  pub few : taken new_taker ≤ taken old_taker + 2 ^ 41 * number

module _ {Taker : Type 0} (follows within : Taker → List (List Base) → Taker → Type 0) (faults taken : Taker → ℕ) where
  unfoldable pub none_made : ((a : Taker) → follows a [] a) → (taker : Taker) (state : State) → IsLimited state → IsMade follows faults taken taker taker state state 0
  none_made stays taker state limited = record {
    attempts = [];
    leads = refl;
    count = refl;
    gave = stays taker;
    same_limit = refl;
    limited = limited;
    same_faults = refl;
    few = omega arith;
  }

  unfoldable pub one_more : GoesOn follows → (old_taker taker new_taker : Taker) (old state new : State) (number : ℕ) (report : Report) → IsMade follows faults taken old_taker taker old state number
      → MakesAttempt follows taker new_taker state new report → new.limit ≡ state.limit → IsLimited new → run_end report.outcome number ≡ None
      → faults new_taker ≡ faults taker → taken new_taker ≤ taken taker + 2 ^ 41
      → IsMade follows faults taken old_taker new_taker old new (number + 1)
  one_more goes_on old_taker taker new_taker old state new number report made step limit limited none same_faults few =
      let goes : next_dna step.attempt.ending ≡ Some new.dna =
      next_is_there state.dna step.attempt.ending number (ap (λ o. run_end o number) (sym step.outcome) ∙ none) ∙ ap (λ d. Some d) (sym step.dna) in
      let is : IsAttempt state.dna old.limit step.attempt = subst (λ n. IsAttempt state.dna n step.attempt) made.same_limit step.is in
      record {
        attempts = made.attempts ++ step.attempt ∷ [];
        leads = leads_more old.limit old.dna made.attempts state.dna step.attempt new.dna made.leads is goes;
        count = omega (arith, length-append made.attempts (step.attempt ∷ []), made.count);
        gave = subst (λ l. follows old_taker l new_taker) (sym (rna_of_more made.attempts step.attempt)) (goes_on old_taker taker new_taker (rna_of made.attempts) step.attempt.rna made.gave step.taken);
        same_limit = limit ∙ made.same_limit;
        limited = limited;
        same_faults = same_faults ∙ made.same_faults;
        few = let before = made.few in omega arith;
      }

  pub spent_run : (old_taker new_taker : Taker) (old new : State) (budget : ℕ) (made : IsMade follows faults taken old_taker new_taker old new budget) → RunOf old.dna budget old.limit made.attempts Budget new.dna
  spent_run old_taker new_taker old new budget made = record {
    run = record { end = Budget; attempts = made.attempts; rna = rna_of made.attempts; dna = new.dna };
    is = record { leads = made.leads; all = made.count; rna = refl };
    all = refl;
    ends = refl;
    gives = refl;
    behind = refl;
  }

  pub run_is_spent : (old_taker new_taker : Taker) (old new : State) (budget : ℕ) → IsMade follows faults taken old_taker new_taker old new budget → MakesRun follows old_taker new_taker old new budget Budget
  run_is_spent old_taker new_taker old new budget made =
      let x : RunOf old.dna budget old.limit made.attempts Budget new.dna = spent_run old_taker new_taker old new budget made in
      record {
        run = x.run;
        is = x.is;
        ends = x.ends;
        dna = x.behind;
        taken = subst (λ l. follows old_taker l new_taker) (sym x.gives) made.gave;
      }

  takes_for_run : (d : List Base) (budget limit : ℕ) (attempts : List Attempt) (old new : ℕ) → BeginsWith d budget limit attempts → new ≤ old + 2 ^ 41 * length attempts → TakesForRun budget (record { dna = d; limit = limit }) old new
  takes_for_run d budget limit attempts old new begins few run is =
      let most : length attempts ≤ length run.attempts = begins_within d budget limit attempts run begins is in omega arith

  pub spent_takes : (old_taker new_taker : Taker) (old new : State) (budget : ℕ) → IsMade follows faults taken old_taker new_taker old new budget → TakesForRun budget old (taken old_taker) (taken new_taker)
  spent_takes old_taker new_taker old new budget made =
      takes_for_run old.dna budget old.limit made.attempts (taken old_taker) (taken new_taker)
      (begins_with_all old.dna budget old.limit made.attempts Budget new.dna (spent_run old_taker new_taker old new budget made))
      (let few = made.few in let count = made.count in omega arith)

  -- one attempt more was tried, of which at most so much was taken
  one_more_takes : (old_taker taker new_taker : Taker) (old state : State) (number : ℕ) (made : IsMade follows faults taken old_taker taker old state number) (attempt : Attempt)
      → taken new_taker ≤ taken taker + 2 ^ 41 → taken new_taker ≤ taken old_taker + 2 ^ 41 * length (made.attempts ++ attempt ∷ [])
  one_more_takes old_taker taker new_taker old state number made attempt most =
      let few = made.few in let count = made.count in omega (arith, length-append made.attempts (attempt ∷ []))

  pub ended_run : (old_taker taker new_taker : Taker) (old state new : State) (budget number : ℕ) (report : Report) (end : RunEnd) (made : IsMade follows faults taken old_taker taker old state number)
      (step : MakesAttempt follows taker new_taker state new report) → run_end report.outcome number ≡ Some end → number < budget
      → RunOf old.dna budget old.limit (made.attempts ++ step.attempt ∷ []) end new.dna
  ended_run old_taker taker new_taker old state new budget number report end made step some allowed =
      let there : EndsThere state.dna step.attempt.ending number end =
      ends_there state.dna step.attempt.ending number end (ap (λ o. run_end o number) (sym step.outcome) ∙ some) in
      let is : IsAttempt state.dna old.limit step.attempt = subst (λ n. IsAttempt state.dna n step.attempt) made.same_limit step.is in
      let run : Run = record { end = end; attempts = made.attempts ++ step.attempt ∷ []; rna = rna_of (made.attempts ++ step.attempt ∷ []); dna = state.dna } in
      let stops : StopsAt old.dna budget old.limit run step.attempt.ending number = record {
        earlier = made.attempts;
        last = step.attempt;
        made = refl;
        leads = made.leads;
        number = made.count;
        allowed = allowed;
        attempt = is;
        ends = refl;
        rna = refl;
      } in
      record {
        run = run;
        is = subst (λ e. RunsTo old.dna budget old.limit run e) there.is (runs_at old.dna budget old.limit run step.attempt.ending number there.none stops);
        all = refl;
        ends = refl;
        gives = refl;
        behind = sym (step.dna ∙ there.stays);
      }

  pub run_ends : GoesOn follows → (old_taker taker new_taker : Taker) (old state new : State) (budget number : ℕ) (report : Report) (end : RunEnd) → IsMade follows faults taken old_taker taker old state number
      → MakesAttempt follows taker new_taker state new report → run_end report.outcome number ≡ Some end → number < budget
      → MakesRun follows old_taker new_taker old new budget end
  run_ends goes_on old_taker taker new_taker old state new budget number report end made step some allowed =
      let x : RunOf old.dna budget old.limit (made.attempts ++ step.attempt ∷ []) end new.dna =
      ended_run old_taker taker new_taker old state new budget number report end made step some allowed in
      record {
        run = x.run;
        is = x.is;
        ends = x.ends;
        dna = x.behind;
        taken = subst (λ l. follows old_taker l new_taker) (sym (x.gives ∙ rna_of_more made.attempts step.attempt)) (goes_on old_taker taker new_taker (rna_of made.attempts) step.attempt.rna made.gave step.taken);
      }

  pub ended_takes : (old_taker taker new_taker : Taker) (old state new : State) (budget number : ℕ) (report : Report) (end : RunEnd) → IsMade follows faults taken old_taker taker old state number
      → MakesAttempt follows taker new_taker state new report → run_end report.outcome number ≡ Some end → number < budget
      → taken new_taker ≤ taken taker + 2 ^ 41
      → TakesForRun budget old (taken old_taker) (taken new_taker)
  ended_takes old_taker taker new_taker old state new budget number report end made step some allowed most =
      takes_for_run old.dna budget old.limit (made.attempts ++ step.attempt ∷ []) (taken old_taker) (taken new_taker)
      (begins_with_all old.dna budget old.limit (made.attempts ++ step.attempt ∷ []) end new.dna (ended_run old_taker taker new_taker old state new budget number report end made step some allowed))
      (one_more_takes old_taker taker new_taker old state number made step.attempt most)

  unfoldable pub run_breaks_off : GoesWithin follows within → Widens within → (old_taker taker new_taker : Taker) (old state new : State) (budget number : ℕ) → IsMade follows faults taken old_taker taker old state number
      → number < budget → StandsWithinAttempt within taker new_taker state → new ≡ state → BreaksOff follows within old_taker new_taker old new budget
  run_breaks_off goes_within widens old_taker taker new_taker old state new budget number made allowed part same =
      let is : IsAttempt state.dna old.limit part.attempt = subst (λ n. IsAttempt state.dna n part.attempt) made.same_limit part.is in
      let rest : RunWith state.dna (budget - number) old.limit part.attempt = run_with state.dna (budget - number) old.limit part.attempt (omega arith) is in
      let whole : RunBehind old.dna (length made.attempts + (budget - number)) old.limit made.attempts rest.run =
      run_behind_chain old.dna (budget - number) old.limit made.attempts state.dna rest.run made.leads rest.is in
      let all : length made.attempts + (budget - number) ≡ budget = let count = made.count in omega arith in
      let rna : rna_of made.attempts ++ (part.attempt.rna ++ rest.more) ≡ whole.run.rna = ap (λ l. rna_of made.attempts ++ l) (sym rest.begins) ∙ sym whole.gives in
      record {
        run = whole.run;
        is = subst (λ n. IsRun old.dna n old.limit whole.run) all whole.is;
        made = made.attempts;
        left = rest.left;
        front = whole.attempts ∙ ap (λ l. made.attempts ++ l) rest.first;
        allowed = let count = made.count in omega arith;
        leads = subst (λ (s : State). Leads old.limit old.dna made.attempts s.dna) (sym same) made.leads;
        middle = taker;
        gave = made.gave;
        part = record {
          attempt = part.attempt;
          is = subst (λ (s : State). IsAttempt s.dna s.limit part.attempt) (sym same) part.is;
          stands = part.stands;
        };
        stands = subst (λ l. within old_taker l new_taker) rna
            (goes_within old_taker taker new_taker (rna_of made.attempts) (part.attempt.rna ++ rest.more) made.gave (widens taker new_taker part.attempt.rna rest.more part.stands));
      }

  pub broken_begins : (old_taker new_taker : Taker) (old new : State) (budget : ℕ) (x : BreaksOff follows within old_taker new_taker old new budget) → BeginsWith old.dna budget old.limit (x.made ++ x.part.attempt ∷ [])
  broken_begins old_taker new_taker old new budget x = record {
    run = x.run;
    is = x.is;
    left = x.left;
    front = x.front ∙ sym (append_assoc x.made (x.part.attempt ∷ []) x.left);
  }

  pub broken_takes : GoesWithin follows within → Widens within → (old_taker taker new_taker : Taker) (old state new : State) (budget number : ℕ) → IsMade follows faults taken old_taker taker old state number
      → number < budget → StandsWithinAttempt within taker new_taker state → new ≡ state → taken new_taker ≤ taken taker + 2 ^ 41
      → TakesForRun budget old (taken old_taker) (taken new_taker)
  unfolding run_breaks_off
  broken_takes goes_within widens old_taker taker new_taker old state new budget number made allowed part same most =
      let x : BreaksOff follows within old_taker new_taker old new budget = run_breaks_off goes_within widens old_taker taker new_taker old state new budget number made allowed part same in
      takes_for_run old.dna budget old.limit (made.attempts ++ x.part.attempt ∷ []) (taken old_taker) (taken new_taker)
      (broken_begins old_taker new_taker old new budget x)
      (one_more_takes old_taker taker new_taker old state number made x.part.attempt most)
