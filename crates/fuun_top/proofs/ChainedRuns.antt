-- A run that is cut in two goes on from the DNA that was kept.
use Rattle.std.proofs.Common.{◌≡◌, inl, inr, ℕ, ◌+◌, ◌≤◌, Bool, true, false, Some, Ok, List, ◌++◌, length, arith, refl, sym, ap, subst, ◌∙◌}
use Rattle.std.proofs.lemmas.Grind.{flat_map-append}
use Rattle.fuun_base.specs.declared.letters.Base.{Base}
use Rattle.dna_reader.specs.RnaLines.{rna_line, rna_lines}
use Rattle.exec_loop.specs.declared.machine.RunEnd.{RunEnd}
use Rattle.exec_loop.specs.declared.machine.RunEnd.TheVariants as end
use Rattle.exec_loop.specs.Laws.{end_behind, IsInParts}
use Rattle.exec_loop.specs.Run.{Run, SpendsBudget, RunsTo, IsRun}
use Rattle.exec_loop.proofs.Joined.{run_goes_on, run_stays_within}
use Rattle.exec_loop.proofs.Runs.{one_run}
use Rattle.tracer.specs.Lines.{trace_text}
use Rattle.tracer.proofs.TraceLemmas.{trace_behind}
use Rattle.fuun_top.specs.declared.request.RunVerb.TheVariants as verb
use Rattle.fuun_top.specs.declared.status.Status.{Status}
use Rattle.fuun_top.specs.declared.status.Status.TheVariants.{OutOfBudget}
use Rattle.fuun_top.specs.Chaining.{Gives, IsKept, counted_on, run_on, with_budget}
use Rattle.fuun_top.specs.Output.{Output, IsRunOutput, IsTraceOutput, status_by}
use Rattle.fuun_top.specs.Reading.{Files, start_in}
use Rattle.fuun_top.specs.RunChains.{IsCutAt, RnaGoesOn, DnaGoesOn, TraceGoesOn}
use Rattle.fuun_top.specs.Texts.{letters}
use Rattle.fuun_top.proofs.ReadBack.{starts, output_by, was_started, run_by, trace_by, start_back}
use Rattle.fuun_words.specs.declared.request.Request.TheVariants as words
use Rattle.fuun_words.specs.declared.request.RunWords.{RunWords}

-- the run up to where it was cut, and the start behind it
pub record CutRun (files later : Files) (asked : RunWords) (a : ℕ) (name : List ℕ) : Type 0 where
  pub dna : List Base
  pub start : start_in files asked ≡ Some (Ok dna)
  pub run : Run
  pub is : IsRun dna a asked.limit run
  pub spent : run.end ≡ end.Budget
  pub goes_on : (b : ℕ) → start_in later (run_on name asked b) ≡ Some (Ok run.dna)

spent_end : (ended : RunEnd) → status_by false ended ≡ OutOfBudget → ended ≡ end.Budget
spent_end (end.Finished attempts) is = absurd (cc)
spent_end end.Budget is = refl
spent_end (end.TooLong attempt) is = absurd (cc)

pub cut_run : (files later : Files) (asked : RunWords) (a : ℕ) (name : List ℕ) → IsCutAt files later asked a name → CutRun files later asked a name
cut_run files later asked a name cut =
    let ran = output_by files (words.Rna (with_budget asked a)) cut.rna cut.ran in
    let start : (dna : List Base) × (start_in files asked ≡ Some (Ok dna)) = was_started files verb.Rna (with_budget asked a) cut.rna (inr (inl cut.spent)) ran in
    let x : IsRunOutput verb.Rna start.0 a asked.limit cut.rna = run_by files verb.Rna (with_budget asked a) start.0 cut.rna start.1 ran in
    let y : IsRunOutput verb.Dna start.0 a asked.limit cut.dna = run_by files verb.Dna (with_budget asked a) start.0 cut.dna start.1 (output_by files (words.Dna (with_budget asked a)) cut.dna cut.left) in
    let same : y.run ≡ x.run = one_run asked.limit a start.0 y.run x.run y.is x.is in
    let bytes : cut.dna.bytes ≡ letters x.run.dna = ap (λ (o : Output). o.bytes) y.writes ∙ ap (λ (r : Run). letters r.dna) same in
    let within : length x.run.dna ≤ asked.limit = run_stays_within asked.limit a start.0 x.run x.is (starts files asked start.0 start.1).within in
    record {
      dna = start.0;
      start = start.1;
      run = x.run;
      is = x.is;
      spent = spent_end x.run.end (sym (ap (λ (o : Output). o.status) x.writes) ∙ cut.spent);
      goes_on = λ b. start_back later name asked b x.run.dna (subst (IsKept later name) bytes cut.kept) within;
    }

-- the status of a run in two parts
counted : (spent : Bool) (made : ℕ) (ended : RunEnd) → status_by spent (end_behind made ended) ≡ counted_on made (status_by spent ended)
counted spent made (end.Finished attempts) = refl
counted true made end.Budget = refl
counted false made end.Budget = refl
counted spent made (end.TooLong attempt) = refl

-- the parts of a run that was cut
pub parts : (files later : Files) (asked : RunWords) (a b : ℕ) (name : List ℕ) (cut : CutRun files later asked a name) (second whole : Run)
    → IsRun cut.run.dna b asked.limit second → IsRun cut.dna (a + b) asked.limit whole → IsInParts a cut.run second whole
parts files later asked a b name cut second whole is_second is_whole = run_goes_on asked.limit a b cut.dna cut.run second whole cut.is cut.spent is_second is_whole

part_status : (spent : Bool) (a : ℕ) (first second whole : Run) (s t : Status) → IsInParts a first second whole → s ≡ status_by spent second.end → t ≡ status_by spent whole.end → t ≡ counted_on a s
part_status spent a first second whole s t x is_s is_t = is_t ∙ ap (status_by spent) x.end ∙ counted spent a second.end ∙ ap (counted_on a) (sym is_s)

-- the lines of the RNA of both parts
pub part_lines : (a : ℕ) (first second whole : Run) → IsInParts a first second whole → rna_lines whole.rna ≡ rna_lines first.rna ++ rna_lines second.rna
part_lines a first second whole x = ap rna_lines x.rna ∙ flat_map-append rna_line first.rna second.rna

-- the lines of the RNA of the first part
pub first_lines : (files later : Files) (asked : RunWords) (a : ℕ) (name : List ℕ) (cut : CutRun files later asked a name) (output : Output) → Gives files (words.Rna (with_budget asked a)) output → output.bytes ≡ rna_lines cut.run.rna
first_lines files later asked a name cut output gives =
    let x : IsRunOutput verb.Rna cut.dna a asked.limit output = run_by files verb.Rna (with_budget asked a) cut.dna output cut.start (output_by files (words.Rna (with_budget asked a)) output gives) in
    ap (λ (o : Output). o.bytes) x.writes ∙ ap (λ (r : Run). rna_lines r.rna) (one_run asked.limit a cut.dna x.run cut.run x.is cut.is)

pub rna_goes_on : RnaGoesOn
rna_goes_on files later asked a b name first second whole is_cut gives_first gives_second gives_whole =
    let cut : CutRun files later asked a name = cut_run files later asked a name is_cut in
    let x : IsRunOutput verb.Rna cut.run.dna b asked.limit second =
    run_by later verb.Rna (run_on name asked b) cut.run.dna second (cut.goes_on b) (output_by later (words.Rna (run_on name asked b)) second gives_second) in
    let y : IsRunOutput verb.Rna cut.dna (a + b) asked.limit whole =
    run_by files verb.Rna (with_budget asked (a + b)) cut.dna whole cut.start (output_by files (words.Rna (with_budget asked (a + b))) whole gives_whole) in
    let both : IsInParts a cut.run x.run y.run = parts files later asked a b name cut x.run y.run x.is y.is in (
      part_status false a cut.run x.run y.run second.status whole.status both (ap (λ (o : Output). o.status) x.writes) (ap (λ (o : Output). o.status) y.writes),
      ap (λ (o : Output). o.bytes) y.writes
          ∙ part_lines a cut.run x.run y.run both
          ∙ ap (λ l. l ++ rna_lines x.run.rna) (sym (first_lines files later asked a name cut first gives_first))
          ∙ ap (λ l. first.bytes ++ l) (sym (ap (λ (o : Output). o.bytes) x.writes)),
    )

pub dna_goes_on : DnaGoesOn
dna_goes_on files later asked a b name second whole is_cut gives_second gives_whole =
    let cut : CutRun files later asked a name = cut_run files later asked a name is_cut in
    let x : IsRunOutput verb.Dna cut.run.dna b asked.limit second =
    run_by later verb.Dna (run_on name asked b) cut.run.dna second (cut.goes_on b) (output_by later (words.Dna (run_on name asked b)) second gives_second) in
    let y : IsRunOutput verb.Dna cut.dna (a + b) asked.limit whole =
    run_by files verb.Dna (with_budget asked (a + b)) cut.dna whole cut.start (output_by files (words.Dna (with_budget asked (a + b))) whole gives_whole) in
    let both : IsInParts a cut.run x.run y.run = parts files later asked a b name cut x.run y.run x.is y.is in (
      part_status true a cut.run x.run y.run second.status whole.status both (ap (λ (o : Output). o.status) x.writes) (ap (λ (o : Output). o.status) y.writes),
      ap (λ (o : Output). o.bytes) y.writes ∙ ap letters both.dna ∙ sym (ap (λ (o : Output). o.bytes) x.writes),
    )

pub trace_goes_on : TraceGoesOn
trace_goes_on files later asked a b name first second whole is_cut gives_first gives_second gives_whole =
    let cut : CutRun files later asked a name = cut_run files later asked a name is_cut in
    let w : IsTraceOutput cut.dna a asked.limit first =
    trace_by files (with_budget asked a) cut.dna first cut.start (output_by files (words.Trace (with_budget asked a)) first gives_first) in
    let x : IsTraceOutput cut.run.dna b asked.limit second =
    trace_by later (run_on name asked b) cut.run.dna second (cut.goes_on b) (output_by later (words.Trace (run_on name asked b)) second gives_second) in
    let y : IsTraceOutput cut.dna (a + b) asked.limit whole =
    trace_by files (with_budget asked (a + b)) cut.dna whole cut.start (output_by files (words.Trace (with_budget asked (a + b))) whole gives_whole) in
    let both : IsInParts a cut.run x.run y.run = parts files later asked a b name cut x.run y.run x.is y.is in
    let before : SpendsBudget cut.dna a asked.limit cut.run = subst (RunsTo cut.dna a asked.limit cut.run) cut.spent cut.is in
    let first_bytes : first.bytes ≡ trace_text 0 cut.dna cut.run.attempts =
    ap (λ (o : Output). o.bytes) w.tells ∙ ap (λ (r : Run). trace_text 0 cut.dna r.attempts) (one_run asked.limit a cut.dna w.run cut.run w.is cut.is) in
    let number : 0 + length cut.run.attempts ≡ a = let all = before.all in omega arith in (
      part_status false a cut.run x.run y.run second.status whole.status both (ap (λ (o : Output). o.status) x.tells) (ap (λ (o : Output). o.status) y.tells),
      record {
        dna = cut.run.dna;
        attempts = x.run.attempts;
        alone = ap (λ (o : Output). o.bytes) x.tells;
        behind = ap (λ (o : Output). o.bytes) y.tells
            ∙ ap (trace_text 0 cut.dna) both.attempts
            ∙ trace_behind asked.limit 0 cut.dna cut.run.attempts x.run.attempts cut.run.dna before.leads
            ∙ ap (λ n. trace_text 0 cut.dna cut.run.attempts ++ trace_text n cut.run.dna x.run.attempts) number
            ∙ ap (λ l. l ++ trace_text a cut.run.dna x.run.attempts) (sym first_bytes);
      },
    )
