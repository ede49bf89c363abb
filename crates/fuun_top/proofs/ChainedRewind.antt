-- The place to which a script steps is that of a run and of its trace.
use Rattle.std.proofs.Common.{◌≡◌, ℕ, ◌+◌, ◌-◌, ◌<◌, ◌≤◌, Option, Some, None, Result, Ok, List, [], ◌∷◌, ◌++◌, length, take, map, codes, arith, refl, sym, ap, subst, ◌∙◌, append-nil, append_assoc, length-append}
use Rattle.std.specs.Option.{option_map}
use Rattle.std.proofs.lemmas.Bool.{le-ltb}
use Rattle.std.proofs.lemmas.List.{length-map, take_all}
use Rattle.fuun_base.specs.declared.letters.Base.{Base}
use Rattle.fuun_base.specs.Letter.{letter_of}
use Rattle.exec_loop.specs.declared.machine.RunEnd.{RunEnd}
use Rattle.exec_loop.specs.declared.machine.RunEnd.TheVariants as end
use Rattle.exec_loop.specs.Attempt as one
use Rattle.exec_loop.specs.Attempt.{Attempt, IsAttempt}
use Rattle.exec_loop.specs.Made.{outcome_of, dna_behind}
use Rattle.exec_loop.specs.Run.{Leads, Run, StopsAt, RunsTo, IsRun}
use Rattle.exec_loop.proofs.Attempts.{has_attempt}
use Rattle.exec_loop.proofs.Runs.{one_run, RunWith, run_with, RunBehind, run_behind_chain}
use Rattle.tracer.specs.Lines.{head_text, outcome_text, trace_text}
use Rattle.tracer.proofs.TraceLemmas.{trace_behind}
use Rattle.rewinder.specs.declared.orders.Order.{Order}
use Rattle.rewinder.specs.declared.orders.Order.TheVariants.{Step, Show}
use Rattle.rewinder.specs.declared.orders.Stop.{Stop}
use Rattle.rewinder.specs.declared.orders.Stop.TheVariants.{Finish, TooLong}
use Rattle.rewinder.specs.Places.{StopsBy, IsNearest}
use Rattle.rewinder.specs.Script.{orders}
use Rattle.rewinder.specs.Texts.{place_line, range_line, Writes}
use Rattle.rewinder.specs.Versions.{most_attempts, IsVersion, EndsBy}
use Rattle.rewinder.proofs.PlaceLemmas.{SamePlace, one_place}
use Rattle.rewinder.proofs.VersionLemmas.{version_is_one}
use Rattle.fuun_top.specs.declared.inputs.Inputs.{Inputs}
use Rattle.fuun_top.specs.declared.inputs.Inputs.TheVariants as inputs
use Rattle.fuun_top.specs.declared.request.RunVerb.TheVariants as verb
use Rattle.fuun_top.specs.declared.status.InFile.TheVariants as file
use Rattle.fuun_top.specs.declared.status.Status.{Status}
use Rattle.fuun_top.specs.declared.status.Status.TheVariants.{BadScript}
use Rattle.fuun_top.specs.Chaining.{Gives, with_budget}
use Rattle.fuun_top.specs.Output.{Output, IsRunOutput, IsTraceOutput, IsRewindOutput, OutputBy}
use Rattle.fuun_top.specs.Reading.{Files, Reading, then_read, unless_refused, guided_in, judged_script, rewound, script_in, start_in}
use Rattle.fuun_top.specs.RunChains.{IsScriptTo, IsTracedAt, RewoundAgrees}
use Rattle.fuun_top.specs.Texts.{letters}
use Rattle.fuun_top.proofs.ReadBack.{Starts, starts, output_by, was_started, run_by, trace_by, bytes_back}
use Rattle.fuun_words.specs.declared.request.Request.TheVariants as words
use Rattle.fuun_words.specs.declared.request.RewindWords.{RewindWords}
use Rattle.fuun_words.specs.declared.request.RunWords.{RunWords}

-- the place of a run: where a step of as many attempts as its budget comes to, and the attempts up to it
record PlaceOf (limit : ℕ) (dna : List Base) (budget : ℕ) (last : List Base) : Type 0 where
  attempts : List Attempt
  leads : Leads limit dna attempts last
  few : length attempts ≤ budget
  stop : Option Stop
  nearest : IsNearest limit dna budget (length attempts) stop

stopped_place : (limit budget : ℕ) (dna : List Base) (run : Run) (ending : one.Ending) (before : ℕ) (stop : Stop) → budget ≤ most_attempts
    → ((k : ℕ) → k < budget → k < most_attempts → EndsBy limit run.dna ending → StopsBy limit run.dna budget k (Some stop)) → StopsAt dna budget limit run ending before → PlaceOf limit dna budget run.dna
stopped_place limit budget dna run ending before stop most stops x = record {
  attempts = x.earlier;
  leads = x.leads;
  few = omega (arith, x.number, x.allowed);
  stop = Some stop;
  nearest = record {
    dna = run.dna;
    version = record { attempts = x.earlier; leads = x.leads; count = refl };
    most = omega (arith, x.number, x.allowed);
    stops = stops (length x.earlier) (omega (arith, x.number, x.allowed)) (omega (arith, x.number, x.allowed)) (record { attempt = x.last; is = x.attempt; ends = x.ends });
  };
}

place_by : (limit budget : ℕ) (dna : List Base) (run : Run) (ended : RunEnd) → budget ≤ most_attempts → RunsTo dna budget limit run ended → PlaceOf limit dna budget run.dna
place_by limit budget dna run (end.Finished attempts) most x = stopped_place limit budget dna run one.Finished x.0 Finish most (λ k below few ends. (below, few, ends)) x.2
place_by limit budget dna run end.Budget most x = record {
  attempts = run.attempts;
  leads = x.leads;
  few = omega (arith, x.all);
  stop = None;
  nearest = record {
    dna = run.dna;
    version = record { attempts = run.attempts; leads = x.leads; count = refl };
    most = omega (arith, x.all);
    stops = x.all;
  };
}
place_by limit budget dna run (end.TooLong attempt) most x = stopped_place limit budget dna run one.TooLong attempt TooLong most (λ k below few ends. (below, few, ends)) x

-- the orders of the script write the place and the DNA
shown_line : (dna : List Base) (hi : ℕ) → length dna ≤ hi → range_line dna 0 hi ≡ letters dna
shown_line dna hi within =
    let all : take (hi - 0) dna ≡ dna = take_all (hi - 0) dna (omega arith) in
    ap (λ d. map letter_of d ++ codes "\n") all

written : (limit : ℕ) (dna last : List Base) (budget hi : ℕ) (place : PlaceOf limit dna budget last) (to : ℕ) (text bytes : List ℕ) → bytes ≡ letters last → length last ≤ hi → Writes limit dna (Step budget ∷ Show 0 hi ∷ []) 0 to text
    → text ≡ place_line (length place.attempts) (length last) place.stop ++ bytes
written limit dna last budget hi place to text bytes is within x =
    let step = x.3 in
    let show = x.4.3 in
    let none : 0 + budget ≡ budget = omega arith in
    let there : SamePlace x.0 (length place.attempts) step.stop place.stop =
    one_place limit dna budget x.0 (length place.attempts) step.stop place.stop (subst (λ n. IsNearest limit dna n x.0 step.stop) none step.moves) place.nearest in
    let at : IsVersion limit dna (length place.attempts) last = record { attempts = place.attempts; leads = place.leads; count = refl } in
    let first_dna : step.dna ≡ last = version_is_one limit dna (length place.attempts) step.dna last (subst (λ n. IsVersion limit dna n step.dna) there.place step.version) at in
    let second_place : x.4.0 ≡ length place.attempts = show.moves.0 ∙ there.place in
    let second_dna : show.dna ≡ last = version_is_one limit dna (length place.attempts) show.dna last (subst (λ n. IsVersion limit dna n show.dna) second_place show.version) at in
    let first_text : x.1 ≡ place_line (length place.attempts) (length last) place.stop =
    step.is
    ∙ ap (λ (d : List Base). place_line x.0 (length d) step.stop) first_dna
    ∙ ap (λ n. place_line n (length last) step.stop) there.place
    ∙ ap (place_line (length place.attempts) (length last)) there.stop in
    let second_text : x.4.1 ≡ bytes = show.is ∙ ap (λ d. range_line d 0 hi) second_dna ∙ shown_line last hi within ∙ sym is in
    let rest : x.2 ≡ bytes = x.4.5 ∙ ap (λ l. x.4.1 ++ l) x.4.4.1 ∙ append-nil x.4.1 ∙ second_text in
    x.5 ∙ ap (λ l. l ++ x.2) first_text ∙ ap (λ l. place_line (length place.attempts) (length last) place.stop ++ l) rest

-- the script is read
script_back : (files : Files) (name : List ℕ) (count hi : ℕ) → IsScriptTo files name count hi → script_in files name ≡ Some (Ok (Step count ∷ Show 0 hi ∷ []))
script_back files name count hi script =
    ap (λ (reading : Reading (List ℕ)). then_read reading (λ contents. Some (judged_script contents))) (bytes_back files file.Script name script.text script.kept)
    ∙ ap (λ found. let r : Reading (List Order) = Some (unless_refused (option_map BadScript found) (orders script.text)) in r) script.good
    ∙ ap (λ (l : List Order). let r : Reading (List Order) = Some (Ok l) in r) script.says

-- what is written of a start by the orders of the script
rewind_by : (files : Files) (asked : RunWords) (script : List ℕ) (dna : List Base) (list : List Order) (output : Output) → Starts files asked dna → script_in files script ≡ Some (Ok list)
    → Gives files (words.Rewind (record { dna = asked.dna; prefix = asked.prefix; script = script; limit = asked.limit })) output → IsRewindOutput dna list asked.limit output
rewind_by files asked script dna list output start is gives =
    let asked_for : RewindWords = record { dna = asked.dna; prefix = asked.prefix; script = script; limit = asked.limit } in
    let here = output_by files (words.Rewind asked_for) output gives in
    let guided : guided_in files asked.prefix script ≡ Some (Ok (start.prefix, list)) =
    ap (λ (reading : Reading (List Base)). then_read reading (λ bases. then_read (script_in files script) (λ found. Some (Ok (bases, found))))) start.read_prefix
    ∙ ap (λ (reading : Reading (List Order)). then_read reading (λ found. let r : Reading (List Base × List Order) = Some (Ok (start.prefix, found)) in r)) is in
    let own = subst (λ (reading : Reading (List Base)). OutputBy (then_read reading (λ dna. then_read (guided_in files asked.prefix script) (λ guided. Some (rewound asked.limit (guided.0 ++ dna) guided.1)))) output) start.read here in
    let both = subst (λ (reading : Reading (List Base × List Order)). OutputBy (then_read reading (λ guided. Some (rewound asked.limit (guided.0 ++ start.own) guided.1))) output) guided own in
    let whole = subst (λ (d : List Base). OutputBy (Some (rewound asked.limit d list)) output) start.whole both in
    subst (λ (r : Result Inputs Status). OutputBy (Some r) output) (rewound_within asked.limit dna list start.within) whole
  where
    rewound_within : (limit : ℕ) (dna : List Base) (list : List Order) → length dna ≤ limit → rewound limit dna list ≡ Ok (inputs.Rewind dna list limit)
    rewound_within limit dna list within = rw (le-ltb limit (length dna) within) refl

-- the trace of one attempt more goes through the place
traced_at : (limit budget : ℕ) (dna last : List Base) (attempts : List Attempt) (run : Run) (text : List ℕ) → Leads limit dna attempts last → length attempts ≤ budget → IsRun dna (budget + 1) limit run → text ≡ trace_text 0 dna run.attempts
    → IsTracedAt text (length attempts) (length last)
traced_at limit budget dna last attempts run text leads few is tells =
    let left : ℕ = budget + 1 - length attempts in
    let next : (attempt : Attempt) × IsAttempt last limit attempt = has_attempt last limit in
    let rest : RunWith last left limit next.0 = run_with last left limit next.0 (omega arith) next.1 in
    let whole : RunBehind dna (length attempts + left) limit attempts rest.run = run_behind_chain dna left limit attempts last rest.run leads rest.is in
    let all : length attempts + left ≡ budget + 1 = omega arith in
    let same : run ≡ whole.run = one_run limit (budget + 1) dna run whole.run is (subst (λ n. IsRun dna n limit whole.run) all whole.is) in
    let made : run.attempts ≡ attempts ++ next.0 ∷ rest.left = ap (λ (r : Run). r.attempts) same ∙ whole.attempts ∙ ap (λ l. attempts ++ l) rest.first in
    let number : 0 + length attempts ≡ length attempts = omega arith in
    let line_end : List ℕ = outcome_text next.0.pattern next.0.template (outcome_of next.0.ending) (length (dna_behind last next.0.ending)) in
    let more : List ℕ = trace_text (length attempts + 1) (dna_behind last next.0.ending) rest.left in
    record {
      dna = dna;
      attempts = attempts;
      number = refl;
      behind = line_end ++ more;
      is = tells
          ∙ ap (trace_text 0 dna) made
          ∙ trace_behind limit 0 dna attempts (next.0 ∷ rest.left) last leads
          ∙ ap (λ n. trace_text 0 dna attempts ++ trace_text n last (next.0 ∷ rest.left)) number
          ∙ ap (λ l. trace_text 0 dna attempts ++ l) (append_assoc (head_text (length attempts) (length last)) line_end more);
    }

pub rewound_agrees : RewoundAgrees
rewound_agrees files asked script hi dna rewound traced most says gives_dna was short gives_rewound gives_traced =
    let ran = output_by files (words.Dna asked) dna gives_dna in
    let start : (d : List Base) × (start_in files asked ≡ Some (Ok d)) = was_started files verb.Dna asked dna was ran in
    let x : IsRunOutput verb.Dna start.0 asked.budget asked.limit dna = run_by files verb.Dna asked start.0 dna start.1 ran in
    let bytes : dna.bytes ≡ letters x.run.dna = ap (λ (o : Output). o.bytes) x.writes in
    let size : length dna.bytes ≡ length x.run.dna + 1 = ap length bytes ∙ length-append (map letter_of x.run.dna) (10 ∷ []) ∙ ap (λ n. n + 1) (length-map x.run.dna letter_of) in
    let place : PlaceOf asked.limit start.0 asked.budget x.run.dna = place_by asked.limit asked.budget start.0 x.run x.run.end most x.is in
    let y : IsRewindOutput start.0 (Step asked.budget ∷ Show 0 hi ∷ []) asked.limit rewound =
    rewind_by files asked script start.0 (Step asked.budget ∷ Show 0 hi ∷ []) rewound (starts files asked start.0 start.1) (script_back files script asked.budget hi says) gives_rewound in
    let shown : y.text ≡ place_line (length place.attempts) (length x.run.dna) place.stop ++ dna.bytes =
    written asked.limit start.0 x.run.dna asked.budget hi place y.last y.text dna.bytes bytes (omega (arith, size, short)) y.writes in
    let z : IsTraceOutput start.0 (asked.budget + 1) asked.limit traced =
    trace_by files (with_budget asked (asked.budget + 1)) start.0 traced start.1 (output_by files (words.Trace (with_budget asked (asked.budget + 1))) traced gives_traced) in (
      ap (λ (o : Output). o.status) y.is,
      (
        length place.attempts,
        length x.run.dna,
        record {
          stop = place.stop;
          shows = ap (λ (o : Output). o.bytes) y.is ∙ shown;
          measured = size;
        },
        traced_at asked.limit asked.budget start.0 x.run.dna place.attempts z.run traced.bytes place.leads place.few z.is (ap (λ (o : Output). o.bytes) z.tells),
      ),
    )
