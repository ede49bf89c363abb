-- A traced run, attempt by attempt.
use Rattle.std.proofs.Common.{◌≡◌, ℕ, ◌+◌, ◌-◌, ◌<◌, Option, Some, None, List, [], ◌∷◌, ◌++◌, length, codes, Result, arith, refl, sym, ap, subst, ◌∙◌, append-nil, append_assoc, length-append}
use Rattle.std.proofs.lemmas.Option.{none-some, same_Some}
use Rattle.fuun_base.specs.declared.letters.Base.{Base}
use Rattle.fuun_base.specs.Ticks.{Ticks}
use Rattle.fuun_io.specs.Written.{appended, Puts, PutsFront}
use Rattle.fuun_io.proofs.WrittenLemmas.{appended-appended, appended-nil, PutsFront-behind, PutsFront-longer}
use Rattle.dna_items.specs.declared.items.PatItem.{PatItem}
use Rattle.dna_items.specs.declared.items.TplItem.{TplItem}
use Rattle.dna_items.specs.Held.{held_pattern, held_template}
use Rattle.exec_loop.specs.declared.machine.Outcome.{Outcome}
use Rattle.exec_loop.specs.declared.machine.Outcome.TheVariants as outcome
use Rattle.exec_loop.specs.declared.machine.Report.{Report}
use Rattle.exec_loop.specs.declared.machine.RunEnd.{RunEnd}
use Rattle.exec_loop.specs.declared.machine.RunEnd.TheVariants.{Budget}
use Rattle.exec_loop.specs.Attempt.{Attempt, Ending, Matched, NoMatch, TooLong, Finished, IsAttempt, next_dna}
use Rattle.exec_loop.specs.Made.{MakesAttempt, StandsWithinAttempt, outcome_of, dna_behind}
use Rattle.exec_loop.specs.Run.{Run, Leads, rna_of, IsRun, RunsTo, StopsAt}
use Rattle.exec_loop.specs.RunEnds.{run_end}
use Rattle.exec_loop.specs.State.{State, IsLimited}
use Rattle.exec_loop.specs.Weights.{Weighs, WeighTogether, TicksFor, TicksForAttempt, TicksForRun}
use Rattle.exec_loop.proofs.AttemptByAttempt.{leads_more, next_is_there, EndsThere, ends_there}
use Rattle.exec_loop.proofs.RunTicks.{ticks_for_run}
use Rattle.exec_loop.proofs.Runs.{runs_at, RunWith, run_with, RunBehind, run_behind_chain}
use Rattle.exec_loop.proofs.Weighing.{has_weight, weigh_more}
use Rattle.listing.proofs.TextLemmas.{held_pair_text}
use Rattle.listing.specs.Texts.{number_text}
use Rattle.tracer.specs.Lines.{outcome_text, head_text, attempt_line, trace_text}
use Rattle.tracer.specs.Traced.{Traces, TracesUpTo, TracesBefore}

-- texts

-- what was put of a text, which is another one
pub puts_of : {T E : Type 0} → (text other : List ℕ) (old new : Option (List ℕ)) (result : Result T E) → text ≡ other → Puts result old new text → Puts result old new other
puts_of text other old new result same put = subst (λ l. Puts result old new l) same put

behind_by : (d : List Base) (ending : Ending) (next : List Base) → next_dna ending ≡ Some next → dna_behind d ending ≡ next
behind_by d (Matched stop dna) next goes = same_Some dna next goes
behind_by d (NoMatch dna) next goes = same_Some dna next goes
behind_by d TooLong next goes = absurd (none-some next goes)
behind_by d Finished next goes = absurd (none-some next goes)

-- the lines of attempts behind others
pub trace_behind : (limit k : ℕ) (d : List Base) (made more : List Attempt) (last : List Base) → Leads limit d made last → trace_text k d (made ++ more) ≡ trace_text k d made ++ trace_text (k + length made) last more
trace_behind limit k d [] more last leads =
    let same : k + 0 ≡ k = omega arith in
    ap (λ e. trace_text k e more) leads ∙ ap (λ n. trace_text n last more) (sym same)
trace_behind limit k d (attempt ∷ made) more last leads =
    let behind : dna_behind d attempt.ending ≡ leads.1.0 = behind_by d attempt.ending leads.1.0 leads.1.1 in
    let there : Leads limit (dna_behind d attempt.ending) made last = subst (λ e. Leads limit e made last) (sym behind) leads.1.2 in
    let rest : trace_text (k + 1) (dna_behind d attempt.ending) (made ++ more) ≡ trace_text (k + 1) (dna_behind d attempt.ending) made ++ trace_text (k + 1 + length made) last more =
    trace_behind limit (k + 1) (dna_behind d attempt.ending) made more last there in
    let number : k + 1 + length made ≡ k + length (attempt ∷ made) = omega arith in
    ap (λ l. attempt_line k d attempt ++ l) (rest ∙ ap (λ n. trace_text (k + 1) (dna_behind d attempt.ending) made ++ trace_text n last more) number)
    ∙ sym (append_assoc (attempt_line k d attempt) (trace_text (k + 1) (dna_behind d attempt.ending) made) (trace_text (k + length (attempt ∷ made)) last more))

held_outcome_text : (pattern kept : List PatItem) (template put : List TplItem) (o : Outcome) (len : ℕ) → kept ≡ held_pattern pattern → put ≡ held_template template → outcome_text kept put o len ≡ outcome_text pattern template o len
held_outcome_text pattern kept template put (outcome.Matched stop) len is_kept is_put =
    ap (λ l. l ++ (codes " | match " ++ (number_text stop ++ (codes " | " ++ (number_text len ++ codes "\n"))))) (held_pair_text pattern kept template put is_kept is_put)
held_outcome_text pattern kept template put outcome.NoMatch len is_kept is_put =
    ap (λ l. l ++ (codes " | no match | " ++ (number_text len ++ codes "\n"))) (held_pair_text pattern kept template put is_kept is_put)
held_outcome_text pattern kept template put outcome.TooLong len is_kept is_put = ap (λ l. l ++ codes " | too long\n") (held_pair_text pattern kept template put is_kept is_put)
held_outcome_text pattern kept template put outcome.Finished len is_kept is_put = refl

-- what is reported of an attempt is its line
pub line_of : {Taker : Type 0} → (follows : Taker → List (List Base) → Taker → Type 0) (a b : Taker) (state new : State) (report : Report) (number len next_len : ℕ) (step : MakesAttempt follows a b state new report)
    → len ≡ length state.dna → next_len ≡ length new.dna → head_text number len ++ outcome_text report.pattern report.template report.outcome next_len ≡ attempt_line number state.dna step.attempt
line_of follows a b state new report number len next_len step before behind =
    let items : outcome_text report.pattern report.template report.outcome next_len ≡ outcome_text step.attempt.pattern step.attempt.template report.outcome next_len =
    held_outcome_text step.attempt.pattern report.pattern step.attempt.template report.template report.outcome next_len step.pattern step.template in
    let outcome : outcome_text step.attempt.pattern step.attempt.template report.outcome next_len ≡ outcome_text step.attempt.pattern step.attempt.template (outcome_of step.attempt.ending) next_len =
    ap (λ o. outcome_text step.attempt.pattern step.attempt.template o next_len) step.outcome in
    let length_behind : next_len ≡ length (dna_behind state.dna step.attempt.ending) = behind ∙ ap length step.dna in
    ap (λ n. head_text number n ++ outcome_text report.pattern report.template report.outcome next_len) before
    ∙ ap (λ l. head_text number (length state.dna) ++ l) (items ∙ outcome ∙ ap (λ n. outcome_text step.attempt.pattern step.attempt.template (outcome_of step.attempt.ending) n) length_behind)

-- the attempts made so far, each of which gave a next DNA: their lines were appended, and the counter rose within their weights
pub record HasTraced (bound : ℕ → ℕ) (old new : State) (number : ℕ) (told now : Option (List ℕ)) (old_steps new_steps : ℕ) : Type 0 where
  pub attempts : List Attempt
  pub leads : Leads old.limit old.dna attempts new.dna
  pub count : length attempts ≡ number
  pub same_limit : new.limit ≡ old.limit
  pub limited : IsLimited new
  pub put : now ≡ appended told (trace_text 0 old.dna attempts)
  pub total : ℕ
  pub weigh : WeighTogether (bound old.limit) old.dna attempts total
  pub ticks : Ticks old_steps new_steps total

pub none_traced : (bound : ℕ → ℕ) (state : State) (told : Option (List ℕ)) (steps : ℕ) → IsLimited state → HasTraced bound state state 0 told told steps steps
none_traced bound state told steps limited = record {
  attempts = [];
  leads = refl;
  count = refl;
  same_limit = refl;
  limited = limited;
  put = sym (appended-nil told);
  total = 0;
  weigh = refl;
  ticks = (omega arith, omega arith);
}

-- one attempt more was tried

under_limit : (bound : ℕ → ℕ) (old state : State) (number : ℕ) (told now : Option (List ℕ)) (old_steps steps : ℕ) (x : HasTraced bound old state number told now old_steps steps) (attempt : Attempt) → IsAttempt state.dna state.limit attempt → IsAttempt state.dna old.limit attempt
under_limit bound old state number told now old_steps steps x attempt is = subst (λ n. IsAttempt state.dna n attempt) x.same_limit is

tried_ticks : (bound : ℕ → ℕ) (old state : State) (number : ℕ) (told now : Option (List ℕ)) (old_steps steps new_steps : ℕ) (x : HasTraced bound old state number told now old_steps steps) (attempt : Attempt)
    → IsAttempt state.dna state.limit attempt → TicksForAttempt (bound state.limit) state steps new_steps → TicksFor (bound old.limit) old.dna (x.attempts ++ attempt ∷ []) old_steps new_steps
tried_ticks bound old state number told now old_steps steps new_steps x attempt is ticks =
    let w : (n : ℕ) × Weighs (bound state.limit) state.dna attempt n = has_weight (bound state.limit) state.dna state.limit attempt is in
    let weighs : Weighs (bound old.limit) state.dna attempt w.0 = subst (λ limit. Weighs (bound limit) state.dna attempt w.0) x.same_limit w.1 in
    let more : Ticks steps new_steps w.0 = ticks attempt w.0 is w.1 in
    let before : Ticks old_steps steps x.total = x.ticks in
    record {
      total = x.total + w.0;
      weigh = weigh_more (bound old.limit) old.limit old.dna x.attempts state.dna attempt x.total w.0 x.leads x.weigh weighs;
      ticks = (omega (arith, more.0, before.0), omega (arith, more.1, before.1));
    }

-- the run begins with the attempts made and the one that was tried
pub record TriedIn (old : State) (budget : ℕ) (made : List Attempt) (attempt : Attempt) : Type 0 where
  pub run : Run
  pub is : IsRun old.dna budget old.limit run
  pub left : List Attempt
  pub front : run.attempts ≡ made ++ attempt ∷ left

tried_in : (bound : ℕ → ℕ) (old state : State) (budget number : ℕ) (told now : Option (List ℕ)) (old_steps steps : ℕ) (x : HasTraced bound old state number told now old_steps steps) (attempt : Attempt)
    → IsAttempt state.dna state.limit attempt → number < budget → TriedIn old budget x.attempts attempt
tried_in bound old state budget number told now old_steps steps x attempt is allowed =
    let rest : RunWith state.dna (budget - number) old.limit attempt = run_with state.dna (budget - number) old.limit attempt (omega arith) (under_limit bound old state number told now old_steps steps x attempt is) in
    let whole : RunBehind old.dna (length x.attempts + (budget - number)) old.limit x.attempts rest.run =
    run_behind_chain old.dna (budget - number) old.limit x.attempts state.dna rest.run x.leads rest.is in
    let all : length x.attempts + (budget - number) ≡ budget = let count = x.count in omega arith in
    record {
      run = whole.run;
      is = subst (λ n. IsRun old.dna n old.limit whole.run) all whole.is;
      left = rest.left;
      front = whole.attempts ∙ ap (λ l. x.attempts ++ l) rest.first;
    }

pub tried_within : (bound : ℕ → ℕ) (old state : State) (budget number : ℕ) (told now : Option (List ℕ)) (old_steps steps new_steps : ℕ) (x : HasTraced bound old state number told now old_steps steps) (attempt : Attempt)
    → IsAttempt state.dna state.limit attempt → number < budget → TicksForAttempt (bound state.limit) state steps new_steps → TicksForRun (bound old.limit) budget old old_steps new_steps
tried_within bound old state budget number told now old_steps steps new_steps x attempt is allowed ticks =
    let tried : TriedIn old budget x.attempts attempt = tried_in bound old state budget number told now old_steps steps x attempt is allowed in
    ticks_for_run (bound old.limit) budget old.limit old.dna (x.attempts ++ attempt ∷ []) old_steps new_steps
    (record { run = tried.run; is = tried.is; left = tried.left; front = tried.front ∙ sym (append_assoc x.attempts (attempt ∷ []) tried.left) })
    (tried_ticks bound old state number told now old_steps steps new_steps x attempt is ticks)

-- no memory for an attempt

pub traced_before : {Taker : Type 0} → (within : Taker → List (List Base) → Taker → Type 0) (a b : Taker) (bound : ℕ → ℕ) (old state new : State) (budget number : ℕ) (told now : Option (List ℕ)) (old_steps steps : ℕ)
    → HasTraced bound old state number told now old_steps steps → number < budget → StandsWithinAttempt within a b state → new ≡ state → TracesBefore old new budget told now
traced_before within a b bound old state new budget number told now old_steps steps x allowed part same =
    let tried : TriedIn old budget x.attempts part.attempt = tried_in bound old state budget number told now old_steps steps x part.attempt part.is allowed in
    let rest : List Attempt = part.attempt ∷ tried.left in
    record {
      run = tried.run;
      is = tried.is;
      made = x.attempts;
      failed = part.attempt;
      left = tried.left;
      front = tried.front;
      leads = subst (λ (s : State). Leads old.limit old.dna x.attempts s.dna) (sym same) x.leads;
      lines = x.put;
      part = record {
        front = trace_text 0 old.dna x.attempts;
        rest = trace_text (0 + length x.attempts) state.dna rest;
        whole = ap (trace_text 0 old.dna) tried.front ∙ trace_behind old.limit 0 old.dna x.attempts rest state.dna x.leads;
        put = x.put;
      };
    }

pub ticked_before : {Taker : Type 0} → (within : Taker → List (List Base) → Taker → Type 0) (a b : Taker) (bound : ℕ → ℕ) (old state : State) (budget number : ℕ) (told now : Option (List ℕ)) (old_steps steps new_steps : ℕ)
    → HasTraced bound old state number told now old_steps steps → number < budget → StandsWithinAttempt within a b state → TicksForAttempt (bound state.limit) state steps new_steps → TicksForRun (bound old.limit) budget old old_steps new_steps
ticked_before within a b bound old state budget number told now old_steps steps new_steps x allowed part ticks =
    tried_within bound old state budget number told now old_steps steps new_steps x part.attempt part.is allowed ticks

-- an attempt that was made

module _ {Taker : Type 0} (follows : Taker → List (List Base) → Taker → Type 0) (a b : Taker) (bound : ℕ → ℕ) (old state new : State) (budget number : ℕ) (report : Report) (told mid now : Option (List ℕ)) (old_steps steps new_steps len next_len : ℕ)
    (x : HasTraced bound old state number told mid old_steps steps) (allowed : number < budget) (step : MakesAttempt follows a b state new report) (before : len ≡ length state.dna) (behind : next_len ≡ length new.dna)
    (ticks : TicksForAttempt (bound state.limit) state steps new_steps) where
  -- its line as it is reported
  abbrev pub line : List ℕ
  line = head_text number len ++ outcome_text report.pattern report.template report.outcome next_len

  line_is : line ≡ attempt_line (length x.attempts) state.dna step.attempt
  line_is = line_of follows a b state new report number len next_len step before behind ∙ ap (λ n. attempt_line n state.dna step.attempt) (sym x.count)

  is_under : IsAttempt state.dna old.limit step.attempt
  is_under = under_limit bound old state number told mid old_steps steps x step.attempt step.is

  -- the lines with that of the attempt
  lines_with : trace_text 0 old.dna (x.attempts ++ step.attempt ∷ []) ≡ trace_text 0 old.dna x.attempts ++ line
  lines_with =
      let none : 0 + length x.attempts ≡ length x.attempts = omega arith in
      trace_behind old.limit 0 old.dna x.attempts (step.attempt ∷ []) state.dna x.leads
      ∙ ap (λ l. trace_text 0 old.dna x.attempts ++ l) (append-nil (attempt_line (0 + length x.attempts) state.dna step.attempt) ∙ ap (λ n. attempt_line n state.dna step.attempt) none ∙ sym line_is)

  put_with : now ≡ appended mid line → now ≡ appended told (trace_text 0 old.dna (x.attempts ++ step.attempt ∷ []))
  put_with put = put ∙ ap (λ t. appended t line) x.put ∙ appended-appended told (trace_text 0 old.dna x.attempts) line ∙ ap (appended told) (sym lines_with)

  pub ticked : TicksForRun (bound old.limit) budget old old_steps new_steps
  ticked = tried_within bound old state budget number told mid old_steps steps new_steps x step.attempt step.is allowed ticks

  -- a front of its line was put
  pub traced_up_to : PutsFront mid now line → TracesUpTo old new budget told now
  traced_up_to put =
      let tried : TriedIn old budget x.attempts step.attempt = tried_in bound old state budget number told mid old_steps steps x step.attempt step.is allowed in
      let here : PutsFront mid now (attempt_line (length x.attempts) state.dna step.attempt) = subst (λ l. PutsFront mid now l) line_is put in
      let none : 0 + length x.attempts ≡ length x.attempts = omega arith in
      let more : List ℕ = trace_text (0 + length x.attempts + 1) (dna_behind state.dna step.attempt.ending) tried.left in
      let behind : PutsFront told now (trace_text 0 old.dna x.attempts ++ (attempt_line (0 + length x.attempts) state.dna step.attempt ++ more)) =
      PutsFront-behind told mid now (trace_text 0 old.dna x.attempts) (attempt_line (0 + length x.attempts) state.dna step.attempt ++ more) x.put
      (PutsFront-longer mid now (attempt_line (0 + length x.attempts) state.dna step.attempt) more (subst (λ n. PutsFront mid now (attempt_line n state.dna step.attempt)) (sym none) here)) in
      record {
        run = tried.run;
        is = tried.is;
        earlier = x.attempts;
        last = step.attempt;
        left = tried.left;
        front = tried.front;
        before = state.dna;
        leads = x.leads;
        attempt = is_under;
        dna = step.dna;
        lines = subst (λ t. PutsFront t now (attempt_line (length x.attempts) state.dna step.attempt)) x.put here;
        part = subst (λ l. PutsFront told now l) (sym (ap (trace_text 0 old.dna) tried.front ∙ trace_behind old.limit 0 old.dna x.attempts (step.attempt ∷ tried.left) state.dna x.leads)) behind;
      }

  -- it ended the run
  pub traced_end : (end : RunEnd) → run_end report.outcome number ≡ Some end → now ≡ appended mid line → Traces old new budget end told now
  traced_end end some put =
      let there : EndsThere state.dna step.attempt.ending number end =
      ends_there state.dna step.attempt.ending number end (ap (λ o. run_end o number) (sym step.outcome) ∙ some) in
      let run : Run = record { end = end; attempts = x.attempts ++ step.attempt ∷ []; rna = rna_of (x.attempts ++ step.attempt ∷ []); dna = state.dna } in
      let stops : StopsAt old.dna budget old.limit run step.attempt.ending number = record {
        earlier = x.attempts;
        last = step.attempt;
        made = refl;
        leads = x.leads;
        number = x.count;
        allowed = allowed;
        attempt = is_under;
        ends = refl;
        rna = refl;
      } in
      record {
        run = run;
        is = subst (λ e. RunsTo old.dna budget old.limit run e) there.is (runs_at old.dna budget old.limit run step.attempt.ending number there.none stops);
        ends = refl;
        dna = sym (step.dna ∙ there.stays);
        lines = put_with put;
      }

  -- the run goes on
  pub traced_more : new.limit ≡ state.limit → IsLimited new → run_end report.outcome number ≡ None → now ≡ appended mid line → HasTraced bound old new (number + 1) told now old_steps new_steps
  traced_more limit limited none put =
      let goes : next_dna step.attempt.ending ≡ Some new.dna =
      next_is_there state.dna step.attempt.ending number (ap (λ o. run_end o number) (sym step.outcome) ∙ none) ∙ ap (λ d. Some d) (sym step.dna) in
      let all : TicksFor (bound old.limit) old.dna (x.attempts ++ step.attempt ∷ []) old_steps new_steps =
      tried_ticks bound old state number told mid old_steps steps new_steps x step.attempt step.is ticks in
      record {
        attempts = x.attempts ++ step.attempt ∷ [];
        leads = leads_more old.limit old.dna x.attempts state.dna step.attempt new.dna x.leads is_under goes;
        count = omega (arith, length-append x.attempts (step.attempt ∷ []), x.count);
        same_limit = limit ∙ x.same_limit;
        limited = limited;
        put = put_with put;
        total = all.total;
        weigh = all.weigh;
        ticks = all.ticks;
      }

-- the budget is spent

pub traced_spent : (bound : ℕ → ℕ) (old new : State) (budget number : ℕ) (told now : Option (List ℕ)) (old_steps new_steps : ℕ) → number ≡ budget → HasTraced bound old new number told now old_steps new_steps → Traces old new budget Budget told now
traced_spent bound old new budget number told now old_steps new_steps all x = record {
  run = record { end = Budget; attempts = x.attempts; rna = rna_of x.attempts; dna = new.dna };
  is = record { leads = x.leads; all = x.count ∙ all; rna = refl };
  ends = refl;
  dna = refl;
  lines = x.put;
}

pub ticked_spent : (bound : ℕ → ℕ) (old new : State) (budget number : ℕ) (told now : Option (List ℕ)) (old_steps new_steps : ℕ) → number ≡ budget → HasTraced bound old new number told now old_steps new_steps → TicksForRun (bound old.limit) budget old old_steps new_steps
ticked_spent bound old new budget number told now old_steps new_steps all x =
    let run : Run = record { end = Budget; attempts = x.attempts; rna = rna_of x.attempts; dna = new.dna } in
    ticks_for_run (bound old.limit) budget old.limit old.dna x.attempts old_steps new_steps
    (record { run = run; is = record { leads = x.leads; all = x.count ∙ all; rna = refl }; left = []; front = sym (append-nil x.attempts) })
    (record { total = x.total; weigh = x.weigh; ticks = x.ticks })
