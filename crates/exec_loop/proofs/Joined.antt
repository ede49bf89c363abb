-- Runs one behind the other, and what holds of all that a run gives.
use Rattle.std.proofs.Common.{◌≡◌, ℕ, ◌+◌, ◌≤◌, Some, List, [], ◌∷◌, ◌++◌, length, arith, refl, sym, ap, subst, ◌∙◌, append_assoc, length-append}
use Rattle.std.specs.List.{AllByRecursion}
use Rattle.std.proofs.lemmas.Option.{none-some, same_Some}
use Rattle.fuun_base.specs.declared.letters.Base.{Base}
use Rattle.dna_reader.specs.CommandLaws.{IsCommand}
use Rattle.dna_reader.specs.Pairs.{PairStands, PairRunsOut, PatternRunsOut, TemplateRunsOut}
use Rattle.dna_reader.specs.Reading.{Read, RanOut}
use Rattle.dna_reader.specs.Tables.{pattern_table, template_table}
use Rattle.dna_reader.proofs.CommandLemmas.{pattern_gives, template_gives}
use Rattle.dna_reader.proofs.ReadingLemmas.{short_readings}
use Rattle.exec_loop.specs.declared.machine.RunEnd.{RunEnd}
use Rattle.exec_loop.specs.declared.machine.RunEnd.TheVariants.{Finished, Budget, TooLong}
use Rattle.exec_loop.specs.Attempt.{Ending, Matched, NoMatch, TooLong as Overlong, Finished as Ended, Attempt, EndsBy, next_dna}
use Rattle.exec_loop.specs.Laws.{end_behind, IsInParts, RunGoesOn, RunGivesCommands, RunStaysWithin}
use Rattle.exec_loop.specs.Run.{Leads, rna_of, Run, SpendsBudget, StopsAt, RunsTo, IsRun}
use Rattle.exec_loop.proofs.AttemptByAttempt.{rna_of_more}
use Rattle.exec_loop.proofs.Runs.{one_run}

-- chains of attempts, one behind the other

leads_behind : (limit : ℕ) (d : List Base) (made : List Attempt) (middle : List Base) (more : List Attempt) (last : List Base) → Leads limit d made middle → Leads limit middle more last → Leads limit d (made ++ more) last
leads_behind limit d [] middle more last x y = subst (λ e. Leads limit e more last) (sym x) y
leads_behind limit d (attempt ∷ made) middle more last x y = (x.0, (x.1.0, x.1.1, leads_behind limit x.1.0 made middle more last x.1.2 y))

rna_of_both : (made more : List Attempt) → rna_of (made ++ more) ≡ rna_of made ++ rna_of more
rna_of_both [] more = refl
rna_of_both (attempt ∷ made) more = ap (λ l. attempt.rna ++ l) (rna_of_both made more) ∙ sym (append_assoc attempt.rna (rna_of made) (rna_of more))

-- a run behind attempts
abbrev joined : List Attempt → Run → Run
joined made rest = record { end = end_behind (length made) rest.end; attempts = made ++ rest.attempts; rna = rna_of made ++ rest.rna; dna = rest.dna }

rna_behind : (made more : List Attempt) (rna : List (List Base)) → rna ≡ rna_of more → rna_of made ++ rna ≡ rna_of (made ++ more)
rna_behind made more rna is = ap (λ l. rna_of made ++ l) is ∙ sym (rna_of_both made more)

stops_behind : (d : List Base) (budget limit : ℕ) (made : List Attempt) (last : List Base) (rest : Run) (ending : Ending) (before : ℕ) → Leads limit d made last → StopsAt last budget limit rest ending before
    → StopsAt d (length made + budget) limit (joined made rest) ending (length made + before)
stops_behind d budget limit made last rest ending before leads x = record {
  earlier = made ++ x.earlier;
  last = x.last;
  made = ap (λ l. made ++ l) x.made ∙ sym (append_assoc made x.earlier (x.last ∷ []));
  leads = leads_behind limit d made last x.earlier rest.dna leads x.leads;
  number = length-append made x.earlier ∙ ap (λ n. length made + n) x.number;
  allowed = let h = x.allowed in omega arith;
  attempt = x.attempt;
  ends = x.ends;
  rna = rna_behind made rest.attempts rest.rna x.rna;
}

runs_behind : (d : List Base) (budget limit : ℕ) (made : List Attempt) (last : List Base) (rest : Run) (end : RunEnd) → Leads limit d made last → RunsTo last budget limit rest end
    → RunsTo d (length made + budget) limit (joined made rest) (end_behind (length made) end)
runs_behind d budget limit made last rest (Finished attempts) leads x =
    (length made + x.0, omega (arith, x.1), stops_behind d budget limit made last rest Ended x.0 leads x.2)
runs_behind d budget limit made last rest Budget leads x = record {
  leads = leads_behind limit d made last rest.attempts rest.dna leads x.leads;
  all = length-append made rest.attempts ∙ ap (λ n. length made + n) x.all;
  rna = rna_behind made rest.attempts rest.rna x.rna;
}
runs_behind d budget limit made last rest (TooLong attempt) leads x = stops_behind d budget limit made last rest Overlong attempt leads x

spent : (d : List Base) (budget limit : ℕ) (run : Run) → IsRun d budget limit run → run.end ≡ Budget → SpendsBudget d budget limit run
spent d budget limit run is end = subst (RunsTo d budget limit run) end is

in_parts : (a : ℕ) (first second whole : Run) → length first.attempts ≡ a → first.rna ≡ rna_of first.attempts → whole ≡ joined first.attempts second → IsInParts a first second whole
in_parts a first second whole count rna same = record {
  end = ap (λ (r : Run). r.end) same ∙ ap (λ n. end_behind n second.end) count;
  attempts = ap (λ (r : Run). r.attempts) same;
  rna = ap (λ (r : Run). r.rna) same ∙ ap (λ l. l ++ second.rna) (sym rna);
  dna = ap (λ (r : Run). r.dna) same;
}

pub run_goes_on : RunGoesOn
run_goes_on limit a b d first second whole is_first end is_second is_whole =
    let x : SpendsBudget d a limit first = spent d a limit first is_first end in
    let both : IsRun d (length first.attempts + b) limit (joined first.attempts second) = runs_behind d b limit first.attempts first.dna second second.end x.leads is_second in
    in_parts a first second whole x.all x.rna
    (one_run limit (a + b) d whole (joined first.attempts second) is_whole (subst (λ n. IsRun d (n + b) limit (joined first.attempts second)) x.all both))

-- what each attempt gives

both_commands : (x y : List (List Base)) → AllByRecursion IsCommand x → AllByRecursion IsCommand y → AllByRecursion IsCommand (x ++ y)
both_commands [] y p q = q
both_commands (command ∷ x) y p q = (p.0, both_commands x y p.1 q)

reads_commands : (d : List Base) (attempt : Attempt) (rest : List Base) → PairStands d attempt.pattern attempt.template attempt.rna rest → AllByRecursion IsCommand attempt.rna
reads_commands d attempt rest x =
    subst (AllByRecursion IsCommand) (sym x.whole)
    (both_commands x.pattern_rna x.template_rna
    (pattern_gives 0 d (Read attempt.pattern x.pattern_rna x.middle) x.reads_pattern)
    (template_gives 0 x.middle (Read attempt.template x.template_rna rest) x.reads_template))

ran_out_commands : (d : List Base) (rna : List (List Base)) → PairRunsOut d rna → AllByRecursion IsCommand rna
ran_out_commands d rna (PatternRunsOut reads) = pattern_gives 0 d (RanOut rna) reads
ran_out_commands d rna (TemplateRunsOut pattern pattern_rna template_rna middle reads runs_out whole) =
    subst (AllByRecursion IsCommand) (sym whole)
    (both_commands pattern_rna template_rna
    (pattern_gives 0 d (Read pattern pattern_rna middle) reads)
    (template_gives 0 middle (RanOut template_rna) runs_out))

attempt_commands : (d : List Base) (limit : ℕ) (attempt : Attempt) (ending : Ending) → EndsBy d limit attempt ending → AllByRecursion IsCommand attempt.rna
attempt_commands d limit attempt (Matched stop next) x = reads_commands d attempt x.0.rest x.0.reads
attempt_commands d limit attempt (NoMatch next) x = reads_commands d attempt next x.reads
attempt_commands d limit attempt Overlong x = reads_commands d attempt x.2.rest x.2.reads
attempt_commands d limit attempt Ended x = ran_out_commands d attempt.rna x.ran_out

chain_commands : (limit : ℕ) (d : List Base) (attempts : List Attempt) (last : List Base) → Leads limit d attempts last → AllByRecursion IsCommand (rna_of attempts)
chain_commands limit d [] last leads = tt
chain_commands limit d (attempt ∷ attempts) last leads =
    both_commands attempt.rna (rna_of attempts) (attempt_commands d limit attempt attempt.ending leads.0) (chain_commands limit leads.1.0 attempts last leads.1.2)

stop_commands : (d : List Base) (budget limit : ℕ) (run : Run) (ending : Ending) (before : ℕ) → StopsAt d budget limit run ending before → AllByRecursion IsCommand run.rna
stop_commands d budget limit run ending before x =
    subst (AllByRecursion IsCommand) (sym (x.rna ∙ ap rna_of x.made ∙ rna_of_more x.earlier x.last))
    (both_commands (rna_of x.earlier) x.last.rna (chain_commands limit d x.earlier run.dna x.leads) (attempt_commands run.dna limit x.last x.last.ending x.attempt))

run_commands : (limit budget : ℕ) (d : List Base) (run : Run) (end : RunEnd) → RunsTo d budget limit run end → AllByRecursion IsCommand run.rna
run_commands limit budget d run (Finished attempts) x = stop_commands d budget limit run Ended x.0 x.2
run_commands limit budget d run Budget x = subst (AllByRecursion IsCommand) (sym x.rna) (chain_commands limit d run.attempts run.dna x.leads)
run_commands limit budget d run (TooLong attempt) x = stop_commands d budget limit run Overlong attempt x

pub run_gives_commands : RunGivesCommands
run_gives_commands limit budget d run is = run_commands limit budget d run run.end is

-- the DNA within the limit

reads_shorten : (d : List Base) (attempt : Attempt) (rest : List Base) → PairStands d attempt.pattern attempt.template attempt.rna rest → length rest ≤ length d
reads_shorten d attempt rest x =
    omega (
      arith,
      short_readings pattern_table 0 d attempt.pattern x.pattern_rna x.middle x.reads_pattern,
      short_readings template_table 0 x.middle attempt.template x.template_rna rest x.reads_template,
    )

next_within : (d : List Base) (limit : ℕ) (attempt : Attempt) (ending : Ending) (next : List Base) → EndsBy d limit attempt ending → next_dna ending ≡ Some next → length d ≤ limit → length next ≤ limit
next_within d limit attempt (Matched stop dna) next x goes within = subst (λ (l : List Base). length l ≤ limit) (same_Some dna next goes) x.1
next_within d limit attempt (NoMatch dna) next x goes within =
    let here : length dna ≤ limit = omega (arith, reads_shorten d attempt dna x.reads) in
    subst (λ (l : List Base). length l ≤ limit) (same_Some dna next goes) here
next_within d limit attempt Overlong next x goes within = absurd (none-some next goes)
next_within d limit attempt Ended next x goes within = absurd (none-some next goes)

pub chain_within : (limit : ℕ) (d : List Base) (attempts : List Attempt) (last : List Base) → Leads limit d attempts last → length d ≤ limit → length last ≤ limit
chain_within limit d [] last leads within = subst (λ (l : List Base). length l ≤ limit) leads within
chain_within limit d (attempt ∷ attempts) last leads within =
    chain_within limit leads.1.0 attempts last leads.1.2 (next_within d limit attempt attempt.ending leads.1.0 leads.0 leads.1.1 within)

run_within : (limit budget : ℕ) (d : List Base) (run : Run) (end : RunEnd) → RunsTo d budget limit run end → length d ≤ limit → length run.dna ≤ limit
run_within limit budget d run (Finished attempts) x within = chain_within limit d x.2.earlier run.dna x.2.leads within
run_within limit budget d run Budget x within = chain_within limit d run.attempts run.dna x.leads within
run_within limit budget d run (TooLong attempt) x within = chain_within limit d x.earlier run.dna x.leads within

pub run_stays_within : RunStaysWithin
run_stays_within limit budget d run is within = run_within limit budget d run run.end is within
