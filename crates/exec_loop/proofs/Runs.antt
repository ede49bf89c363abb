-- Each DNA has exactly one run for a budget and a limit.
use Rattle.std.proofs.Common.{◌≡◌, ℕ, zero, suc, ◌+◌, ◌<◌, Option, Some, None, List, [], ◌∷◌, ◌++◌, length, arith, refl, sym, ap, subst, ◌∙◌, append_assoc}
use Rattle.std.proofs.lemmas.Option.{none-some, same_Some}
use Rattle.fuun_base.specs.declared.letters.Base.{Base}
use Rattle.exec_loop.specs.declared.machine.RunEnd.{RunEnd}
use Rattle.exec_loop.specs.declared.machine.RunEnd.TheVariants.{Finished, Budget, TooLong}
use Rattle.exec_loop.specs.Attempt.{Ending, Matched, NoMatch, TooLong as Overlong, Finished as Ended, Attempt, IsAttempt, next_dna}
use Rattle.exec_loop.specs.Run.{Leads, rna_of, Run, SpendsBudget, StopsAt, RunsTo, IsRun}
use Rattle.exec_loop.proofs.Attempts.{has_attempt, one_attempt}

-- runs put together

-- the end of a run with one attempt more before it
pub later : RunEnd → RunEnd
later (Finished attempts) = Finished (attempts + 1)
later Budget = Budget
later (TooLong attempt) = TooLong (attempt + 1)

-- a run behind an attempt
pub behind : Attempt → Run → Run
behind attempt run = record { end = later run.end; attempts = attempt ∷ run.attempts; rna = attempt.rna ++ run.rna; dna = run.dna }

-- the end of a run by an attempt that ends so, after so many
unfoldable pub end_at : Ending → ℕ → RunEnd
end_at (Matched stop next) before = Budget
end_at (NoMatch next) before = Budget
end_at Overlong before = TooLong before
end_at Ended before = Finished (before + 1)

-- the run of one attempt that gives no next DNA
pub stopped : List Base → Attempt → Run
stopped d attempt = record { end = end_at attempt.ending 0; attempts = attempt ∷ []; rna = attempt.rna ++ []; dna = d }

-- the run of no attempts
pub unmade : List Base → Run
unmade d = record { end = Budget; attempts = []; rna = []; dna = d }

same_run : (r s : Run) → r.end ≡ s.end → r.attempts ≡ s.attempts → r.rna ≡ s.rna → r.dna ≡ s.dna → r ≡ s
same_run r s end attempts rna dna =
    ap (λ e. let x : Run = record { end = e; attempts = r.attempts; rna = r.rna; dna = r.dna } in x) end
    ∙ ap (λ l. let x : Run = record { end = s.end; attempts = l; rna = r.rna; dna = r.dna } in x) attempts
    ∙ ap (λ l. let x : Run = record { end = s.end; attempts = s.attempts; rna = l; dna = r.dna } in x) rna
    ∙ ap (λ d. let x : Run = record { end = s.end; attempts = s.attempts; rna = s.rna; dna = d } in x) dna

later_end : (ending : Ending) (before : ℕ) → next_dna ending ≡ None → later (end_at ending before) ≡ end_at ending (before + 1)
unfolding later end_at
later_end (Matched stop next) before none = refl
later_end (NoMatch next) before none = refl
later_end Overlong before none = refl
later_end Ended before none = refl

pub runs_at : (d : List Base) (budget limit : ℕ) (run : Run) (ending : Ending) (before : ℕ) → next_dna ending ≡ None → StopsAt d budget limit run ending before → RunsTo d budget limit run (end_at ending before)
unfolding end_at
runs_at d budget limit run (Matched stop next) before none x = absurd (none-some next (sym none))
runs_at d budget limit run (NoMatch next) before none x = absurd (none-some next (sym none))
runs_at d budget limit run Overlong before none x = x
runs_at d budget limit run Ended before none x = (before, refl, x)

pub run_unmade : (d : List Base) (limit : ℕ) → IsRun d 0 limit (unmade d)
unfolding unmade
run_unmade d limit = record { leads = refl; all = refl; rna = refl }

pub run_stopped : (d : List Base) (budget limit : ℕ) (attempt : Attempt) → IsAttempt d limit attempt → next_dna attempt.ending ≡ None → IsRun d (suc budget) limit (stopped d attempt)
unfolding stopped
run_stopped d budget limit attempt is none =
    runs_at d (suc budget) limit (stopped d attempt) attempt.ending 0 none (record {
      earlier = [];
      last = attempt;
      made = refl;
      leads = refl;
      number = refl;
      allowed = omega arith;
      attempt = is;
      ends = refl;
      rna = refl;
    })

stops_behind : (d : List Base) (budget limit : ℕ) (attempt : Attempt) (next : List Base) (run : Run) (ending : Ending) (before : ℕ)
    → IsAttempt d limit attempt → next_dna attempt.ending ≡ Some next → StopsAt next budget limit run ending before
    → StopsAt d (suc budget) limit (behind attempt run) ending (before + 1)
unfolding behind
stops_behind d budget limit attempt next run ending before is goes x = record {
  earlier = attempt ∷ x.earlier;
  last = x.last;
  made = ap (λ l. attempt ∷ l) x.made;
  leads = (is, (next, goes, x.leads));
  number = let h = x.number in omega arith;
  allowed = let h = x.allowed in omega arith;
  attempt = x.attempt;
  ends = x.ends;
  rna = ap (λ l. attempt.rna ++ l) x.rna;
}

runs_behind : (d : List Base) (budget limit : ℕ) (attempt : Attempt) (next : List Base) (run : Run) (end : RunEnd)
    → IsAttempt d limit attempt → next_dna attempt.ending ≡ Some next → RunsTo next budget limit run end
    → RunsTo d (suc budget) limit (behind attempt run) (later end)
unfolding behind later
runs_behind d budget limit attempt next run (Finished attempts) is goes x =
    (x.0 + 1, ap (λ n. n + 1) x.1, stops_behind d budget limit attempt next run Ended x.0 is goes x.2)
runs_behind d budget limit attempt next run Budget is goes x = record {
  leads = (is, (next, goes, x.leads));
  all = ap suc x.all;
  rna = ap (λ l. attempt.rna ++ l) x.rna;
}
runs_behind d budget limit attempt next run (TooLong number) is goes x = stops_behind d budget limit attempt next run Overlong number is goes x

pub run_behind : (d : List Base) (budget limit : ℕ) (attempt : Attempt) (next : List Base) (run : Run)
    → IsAttempt d limit attempt → next_dna attempt.ending ≡ Some next → IsRun next budget limit run
    → IsRun d (suc budget) limit (behind attempt run)
unfolding behind
run_behind d budget limit attempt next run is goes x = runs_behind d budget limit attempt next run run.end is goes x

-- there is a run

-- a run that begins with an attempt
pub record RunWith (d : List Base) (budget limit : ℕ) (attempt : Attempt) : Type 0 where
  pub run : Run
  pub is : IsRun d budget limit run
  pub left : List Attempt
  pub first : run.attempts ≡ attempt ∷ left
  pub more : List (List Base)
  pub begins : run.rna ≡ attempt.rna ++ more

run_by : (d : List Base) (budget limit : ℕ) (attempt : Attempt) (next : Option (List Base)) → IsAttempt d limit attempt → next_dna attempt.ending ≡ next → ((next : List Base) → (run : Run) × IsRun next budget limit run) → RunWith d (suc budget) limit attempt
unfolding stopped behind
run_by d budget limit attempt None is none runs = record {
  run = stopped d attempt;
  is = run_stopped d budget limit attempt is none;
  left = [];
  first = refl;
  more = [];
  begins = refl;
}
run_by d budget limit attempt (Some next) is goes runs =
    let rest : (run : Run) × IsRun next budget limit run = runs next in
    record {
      run = behind attempt rest.0;
      is = run_behind d budget limit attempt next rest.0 is goes rest.1;
      left = rest.0.attempts;
      first = refl;
      more = rest.0.rna;
      begins = refl;
    }

pub has_run : (limit budget : ℕ) (d : List Base) → (run : Run) × IsRun d budget limit run
has_run limit zero d = (unmade d, run_unmade d limit)
has_run limit (suc budget) d =
    let attempt : (attempt : Attempt) × IsAttempt d limit attempt = has_attempt d limit in
    let made : RunWith d (suc budget) limit attempt.0 = run_by d budget limit attempt.0 (next_dna attempt.0.ending) attempt.1 refl (has_run limit budget) in
    (made.run, made.is)

pub run_with : (d : List Base) (budget limit : ℕ) (attempt : Attempt) → 0 < budget → IsAttempt d limit attempt → RunWith d budget limit attempt
run_with d zero limit attempt some is = absurd (omega arith)
run_with d (suc budget) limit attempt some is = run_by d budget limit attempt (next_dna attempt.ending) is refl (has_run limit budget)

-- a run behind a chain of attempts
pub record RunBehind (d : List Base) (budget limit : ℕ) (made : List Attempt) (rest : Run) : Type 0 where
  pub run : Run
  pub is : IsRun d budget limit run
  pub attempts : run.attempts ≡ made ++ rest.attempts
  pub gives : run.rna ≡ rna_of made ++ rest.rna

chained : (d : List Base) (budget limit : ℕ) (attempt : Attempt) (next : List Base) (made : List Attempt) (rest : Run) → IsAttempt d limit attempt → next_dna attempt.ending ≡ Some next → RunBehind next (length made + budget) limit made rest → RunBehind d (suc (length made) + budget) limit (attempt ∷ made) rest
unfolding behind
chained d budget limit attempt next made rest is goes further =
    let one_more : suc (length made + budget) ≡ suc (length made) + budget = omega arith in
    record {
      run = behind attempt further.run;
      is = subst (λ n. IsRun d n limit (behind attempt further.run)) one_more (run_behind d (length made + budget) limit attempt next further.run is goes further.is);
      attempts = ap (λ l. attempt ∷ l) further.attempts;
      gives = ap (λ l. attempt.rna ++ l) further.gives ∙ sym (append_assoc attempt.rna (rna_of made) rest.rna);
    }

pub run_behind_chain : (d : List Base) (budget limit : ℕ) (made : List Attempt) (last : List Base) (rest : Run) → Leads limit d made last → IsRun last budget limit rest → RunBehind d (length made + budget) limit made rest
run_behind_chain d budget limit [] last rest leads is = record {
  run = rest;
  is = let none : 0 + budget ≡ budget = omega arith in subst (λ n. IsRun d n limit rest) (sym none) (subst (λ e. IsRun e budget limit rest) (sym leads) is);
  attempts = refl;
  gives = refl;
}
run_behind_chain d budget limit (attempt ∷ made) last rest leads is = chained d budget limit attempt leads.1.0 made rest leads.0 leads.1.1 (run_behind_chain leads.1.0 budget limit made last rest leads.1.2 is)

-- and only one

data RunCase (d : List Base) (budget limit : ℕ) (run : Run) : Type 0 where
  Stops : (attempt : Attempt) → IsAttempt d limit attempt → next_dna attempt.ending ≡ None → run ≡ stopped d attempt → RunCase d budget limit run
  Goes : (attempt : Attempt) (next : List Base) (rest : Run) → IsAttempt d limit attempt → next_dna attempt.ending ≡ Some next → IsRun next budget limit rest → run ≡ behind attempt rest → RunCase d budget limit run

stop_case : (d : List Base) (budget limit : ℕ) (run : Run) (ending : Ending) (before : ℕ) (x : StopsAt d (suc budget) limit run ending before) (earlier : List Attempt)
    → x.earlier ≡ earlier → next_dna ending ≡ None → run.end ≡ end_at ending before → RunCase d budget limit run
unfolding stopped behind
stop_case d budget limit run ending before x [] is none end =
    let here : d ≡ run.dna = subst (λ l. Leads limit d l run.dna) is x.leads in
    let first : before ≡ 0 = sym x.number ∙ ap length is in
    let made : run.attempts ≡ x.last ∷ [] = x.made ∙ ap (λ l. l ++ x.last ∷ []) is in
    Stops x.last
    (subst (λ e. IsAttempt e limit x.last) (sym here) x.attempt)
    (ap next_dna x.ends ∙ none)
    (same_run run (stopped d x.last) (end ∙ ap (λ n. end_at ending n) first ∙ ap (λ e. end_at e 0) (sym x.ends)) made (x.rna ∙ ap rna_of made) (sym here))
stop_case d budget limit run ending before x (attempt ∷ earlier) is none end =
    let leads : Leads limit d (attempt ∷ earlier) run.dna = subst (λ l. Leads limit d l run.dna) is x.leads in
    let number : before ≡ length earlier + 1 = let h : suc (length earlier) ≡ before = sym (ap length is) ∙ x.number in omega arith in
    let made : run.attempts ≡ attempt ∷ (earlier ++ x.last ∷ []) = x.made ∙ ap (λ l. l ++ x.last ∷ []) is in
    let rest : Run = record { end = end_at ending (length earlier); attempts = earlier ++ x.last ∷ []; rna = rna_of (earlier ++ x.last ∷ []); dna = run.dna } in
    let stops : StopsAt leads.1.0 budget limit rest ending (length earlier) = record {
      earlier = earlier;
      last = x.last;
      made = refl;
      leads = leads.1.2;
      number = refl;
      allowed = let h = x.allowed in omega arith;
      attempt = x.attempt;
      ends = x.ends;
      rna = refl;
    } in
    Goes attempt leads.1.0 rest leads.0 leads.1.1
    (runs_at leads.1.0 budget limit rest ending (length earlier) none stops)
    (same_run run (behind attempt rest) (end ∙ ap (λ n. end_at ending n) number ∙ sym (later_end ending (length earlier) none)) made (x.rna ∙ ap rna_of made) refl)

budget_case : (d : List Base) (budget limit : ℕ) (run : Run) (x : SpendsBudget d (suc budget) limit run) (attempts : List Attempt) → run.attempts ≡ attempts → run.end ≡ Budget → RunCase d budget limit run
unfolding behind later
budget_case d budget limit run x [] is end = let h : 0 ≡ suc budget = sym (ap length is) ∙ x.all in absurd (omega arith)
budget_case d budget limit run x (attempt ∷ attempts) is end =
    let leads : Leads limit d (attempt ∷ attempts) run.dna = subst (λ l. Leads limit d l run.dna) is x.leads in
    let rest : Run = record { end = Budget; attempts = attempts; rna = rna_of attempts; dna = run.dna } in
    let spends : SpendsBudget leads.1.0 budget limit rest = record {
      leads = leads.1.2;
      all = let h : suc (length attempts) ≡ suc budget = sym (ap length is) ∙ x.all in omega arith;
      rna = refl;
    } in
    Goes attempt leads.1.0 rest leads.0 leads.1.1 spends
    (same_run run (behind attempt rest) end is (x.rna ∙ ap rna_of is) refl)

run_case : (d : List Base) (budget limit : ℕ) (run : Run) (end : RunEnd) → run.end ≡ end → RunsTo d (suc budget) limit run end → RunCase d budget limit run
unfolding end_at
run_case d budget limit run (Finished attempts) is x = stop_case d budget limit run Ended x.0 x.2 x.2.earlier refl refl (is ∙ ap (λ n. Finished n) x.1)
run_case d budget limit run Budget is x = budget_case d budget limit run x run.attempts refl is
run_case d budget limit run (TooLong attempt) is x = stop_case d budget limit run Overlong attempt x x.earlier refl refl is

none_of : (d : List Base) (limit : ℕ) (run : Run) → SpendsBudget d 0 limit run → (attempts : List Attempt) → run.attempts ≡ attempts → run.end ≡ Budget → run ≡ unmade d
unfolding unmade
none_of d limit run x [] is end =
    let here : d ≡ run.dna = subst (λ l. Leads limit d l run.dna) is x.leads in
    same_run run (unmade d) end is (x.rna ∙ ap rna_of is) (sym here)
none_of d limit run x (attempt ∷ attempts) is end = let h : suc (length attempts) ≡ 0 = sym (ap length is) ∙ x.all in absurd (omega arith)

none_made : (d : List Base) (limit : ℕ) (run : Run) (end : RunEnd) → run.end ≡ end → RunsTo d 0 limit run end → run ≡ unmade d
unfolding unmade
none_made d limit run (Finished attempts) is x = let h = x.2.allowed in absurd (omega arith)
none_made d limit run Budget is x = none_of d limit run x run.attempts refl is
none_made d limit run (TooLong attempt) is x = let h = x.allowed in absurd (omega arith)

cases_are_one : (d : List Base) (budget limit : ℕ) (r s : Run) → ((next : List Base) (a b : Run) → IsRun next budget limit a → IsRun next budget limit b → a ≡ b) → RunCase d budget limit r → RunCase d budget limit s → r ≡ s
cases_are_one d budget limit r s once (Stops a is_a none_a r_is) (Stops b is_b none_b s_is) = r_is ∙ ap (stopped d) (one_attempt d limit a b is_a is_b) ∙ sym s_is
cases_are_one d budget limit r s once (Stops a is_a none_a r_is) (Goes b next rest is_b goes runs s_is) =
    absurd (none-some next (sym none_a ∙ ap (λ x. next_dna x.ending) (one_attempt d limit a b is_a is_b) ∙ goes))
cases_are_one d budget limit r s once (Goes a next rest is_a goes runs r_is) (Stops b is_b none_b s_is) =
    absurd (none-some next (sym none_b ∙ ap (λ x. next_dna x.ending) (one_attempt d limit b a is_b is_a) ∙ goes))
cases_are_one d budget limit r s once (Goes a next rest is_a goes runs r_is) (Goes b next' rest' is_b goes' runs' s_is) =
    let same : a ≡ b = one_attempt d limit a b is_a is_b in
    let nexts : next ≡ next' = same_Some next next' (sym goes ∙ ap (λ x. next_dna x.ending) same ∙ goes') in
    let moved : IsRun next budget limit rest' = subst (λ e. IsRun e budget limit rest') (sym nexts) runs' in
    r_is ∙ ap (λ x. behind x rest) same ∙ ap (behind b) (once next rest rest' runs moved) ∙ sym s_is

pub one_run : (limit budget : ℕ) (d : List Base) (r s : Run) → IsRun d budget limit r → IsRun d budget limit s → r ≡ s
one_run limit zero d r s x y = none_made d limit r r.end refl x ∙ sym (none_made d limit s s.end refl y)
one_run limit (suc budget) d r s x y = cases_are_one d budget limit r s (one_run limit budget) (run_case d budget limit r r.end refl x) (run_case d budget limit s s.end refl y)
