-- Files that hold what a verb wrote are read back, and runs that were made were started.
use Rattle.std.proofs.Common.{◌≡◌, inl, inr, ℕ, zero, suc, ◌+◌, ◌<◌, ◌≤◌, Bool, true, false, Option, Some, None, Result, Ok, Err, List, [], ◌∷◌, ◌++◌, length, get_or, map, arith, refl, ap, subst, ◌∙◌, append-nil, length-append}
use Rattle.std.specs.Prelude.{if◌then◌else◌, nat_lt}
use Rattle.std.specs.List.{AllByRecursion}
use Rattle.std.specs.Option.{option_map}
use Rattle.std.proofs.lemmas.Bool.{le-ltb, ltb-false}
use Rattle.std.proofs.lemmas.List.{length-map}
use Rattle.std.proofs.lemmas.List.Elements.{filter_map-append}
use Rattle.fuun_base.specs.declared.letters.Base.{Base}
use Rattle.fuun_base.specs.declared.letters.Base.TheVariants.{I, C, F, P}
use Rattle.fuun_base.specs.Letter.{base_of, letter_of}
use Rattle.fuun_base.specs.DnaFile.{bases, first_other, is_other}
use Rattle.fuun_base.specs.RnaFile.{commands, first_bad}
use Rattle.fuun_base.proofs.Reading.{no_other}
use Rattle.dna_reader.specs.CommandLaws.{IsCommand}
use Rattle.dna_reader.specs.RnaLines.{rna_lines}
use Rattle.dna_reader.proofs.CommandLemmas.{bases_of_letters, lines_are_read, lines_are_good}
use Rattle.fuun_top.specs.declared.inputs.Inputs.{Inputs}
use Rattle.fuun_top.specs.declared.inputs.Inputs.TheVariants as inputs
use Rattle.fuun_top.specs.declared.request.Asked.TheVariants as asked
use Rattle.fuun_top.specs.declared.request.RunVerb.{RunVerb}
use Rattle.fuun_top.specs.declared.request.TextVerb.{TextVerb}
use Rattle.fuun_top.specs.declared.status.InFile.{InFile}
use Rattle.fuun_top.specs.declared.status.InFile.TheVariants as file
use Rattle.fuun_top.specs.declared.status.Status.{Status}
use Rattle.fuun_top.specs.declared.status.Status.TheVariants.{BadBase, BadRna, Done, InputTooLong, StartTooLong}
use Rattle.fuun_top.specs.Asked.{sorted}
use Rattle.fuun_top.specs.Chaining.{Gives, IsKept, WasRun, run_on}
use Rattle.fuun_top.specs.Making.{IsMade}
use Rattle.fuun_top.specs.Output.{IsAnswer, Output, IsRunOutput, IsTraceOutput, OutputBy, OutputOf}
use Rattle.fuun_top.specs.Reading.{Files, Reading, most_bytes, then_read, unless_refused, within, bytes_in, judged_dna, dna_in, prefix_in, judged_rna, rna_in, started, start_in, text_file, inputs_of}
use Rattle.fuun_top.specs.Stages.{IsRefusal}
use Rattle.fuun_top.specs.Texts.{letters}
use Rattle.fuun_words.specs.declared.request.Request.{Request}
use Rattle.fuun_words.specs.declared.request.RunWords.{RunWords}

-- what is refused before a run

abbrev pub RefusesEarly : {A : Type 0} → Reading A → Type 0
RefusesEarly None = Unit {0}
RefusesEarly (Some (Err status)) = IsRefusal status
RefusesEarly (Some (Ok value)) = Unit {0}

pub run_is_no_refusal : (status : Status) → WasRun status → IsRefusal status → ⊥
run_is_no_refusal status (inl is) refused = subst IsRefusal is refused
run_is_no_refusal status (inr (inl is)) refused = subst IsRefusal is refused
run_is_no_refusal status (inr (inr (attempt, is))) refused = subst IsRefusal is refused

then_early : {A B : Type 0} (reading : Reading A) (next : A → Reading B) → RefusesEarly reading → ((value : A) → RefusesEarly (next value)) → RefusesEarly (then_read reading next)
then_early None next early more = tt
then_early (Some (Err status)) next early more = early
then_early (Some (Ok value)) next early more = more value

judged_early : {A : Type 0} (found : Option ℕ) (make : ℕ → Status) (value : A) → ((n : ℕ) → IsRefusal (make n)) → RefusesEarly (Some (unless_refused (option_map make found) value))
judged_early None make value each = tt
judged_early (Some n) make value each = each n

tested_early : {A : Type 0} (over : Bool) (status : Status) (value : A) → IsRefusal status → RefusesEarly (Some (if over then Err status else Ok value))
tested_early true status value early = early
tested_early false status value early = tt

bytes_early : (in_file : InFile) (contents : Option (List ℕ)) → RefusesEarly (option_map (within in_file) contents)
bytes_early in_file None = tt
bytes_early in_file (Some contents) = tested_early (nat_lt most_bytes (length contents)) (InputTooLong in_file) contents tt

dna_early : (files : Files) (in_file : InFile) (name : List ℕ) → RefusesEarly (dna_in files in_file name)
dna_early files in_file name =
    then_early (bytes_in files in_file name) (λ contents. Some (judged_dna in_file contents)) (bytes_early in_file (files name))
    (λ contents. judged_early (first_other contents) (BadBase in_file) (bases contents) (λ n. tt))

prefix_early : (files : Files) (prefix : Option (List ℕ)) → RefusesEarly (prefix_in files prefix)
prefix_early files None = tt
prefix_early files (Some name) = dna_early files file.Prefix name

pub start_early : (files : Files) (words : RunWords) → RefusesEarly (start_in files words)
start_early files words =
    then_early (dna_in files file.Dna words.dna) _ (dna_early files file.Dna words.dna) (λ dna.
    then_early (prefix_in files words.prefix) _ (prefix_early files words.prefix) (λ prefix.
    tested_early (nat_lt words.limit (length (prefix ++ dna))) StartTooLong (prefix ++ dna) tt))

pub rna_early : (files : Files) (name : List ℕ) → RefusesEarly (rna_in files name)
rna_early files name =
    then_early (bytes_in files file.Rna name) (λ contents. Some (judged_rna contents)) (bytes_early file.Rna (files name))
    (λ contents. judged_early (first_bad contents) BadRna (commands contents) (λ n. tt))

-- what was read

then_ok : {A B : Type 0} (reading : Reading A) (next : A → Reading B) (value : B) → then_read reading next ≡ Some (Ok value) → (first : A) × (reading ≡ Some (Ok first)) × (next first ≡ Some (Ok value))
then_ok None next value is = absurd (cc)
then_ok (Some (Err status)) next value is = absurd (cc)
then_ok (Some (Ok first)) next value is = (first, refl, is)

started_by : (limit : ℕ) (dna value : List Base) (over : Bool) → nat_lt limit (length dna) ≡ over → (if over then Err StartTooLong else Ok dna) ≡ Ok value → (dna ≡ value) × (length dna ≤ limit)
started_by limit dna value true test is = absurd (cc)
started_by limit dna value false test is = (cc, ltb-false limit (length dna) test)

-- the start of a run, with its files
pub record Starts (files : Files) (words : RunWords) (dna : List Base) : Type 0 where
  pub own : List Base
  pub read : dna_in files file.Dna words.dna ≡ Some (Ok own)
  pub prefix : List Base
  pub read_prefix : prefix_in files words.prefix ≡ Some (Ok prefix)
  pub whole : prefix ++ own ≡ dna
  pub within : length dna ≤ words.limit

pub starts : (files : Files) (words : RunWords) (dna : List Base) → start_in files words ≡ Some (Ok dna) → Starts files words dna
starts files words dna is =
    let first = then_ok (dna_in files file.Dna words.dna) _ dna is in
    let second = then_ok (prefix_in files words.prefix) _ dna first.2 in
    let both : List Base = second.0 ++ first.0 in
    let made : started words.limit both ≡ Ok dna = let e : Some (started words.limit both) ≡ Some (Ok dna) = second.2 in cc in
    let test = started_by words.limit both dna (nat_lt words.limit (length both)) refl made in
    record {
      own = first.0;
      read = first.1;
      prefix = second.0;
      read_prefix = second.1;
      whole = test.0;
      within = subst (λ (d : List Base). length d ≤ words.limit) test.0 test.1;
    }

-- the output of a request
pub output_by : (files : Files) (request : Request) (output : Output) → Gives files request output → OutputBy (inputs_of files (sorted request)) output
output_by files request output gives = subst (λ found. OutputOf files found output) gives.ask gives.is

-- what was run was started
start_by : (reading : Reading (List Base)) (next : List Base → Inputs) (output : Output) → RefusesEarly reading → WasRun output.status → OutputBy (then_read reading (λ dna. Some (Ok (next dna)))) output
    → (dna : List Base) × (reading ≡ Some (Ok dna))
start_by None next output early was by = absurd by
start_by (Some (Err status)) next output early was by = absurd (run_is_no_refusal status (subst WasRun (ap (λ (o : Output). o.status) by) was) early)
start_by (Some (Ok dna)) next output early was by = (dna, refl)

pub was_started : (files : Files) (verb : RunVerb) (words : RunWords) (output : Output) → WasRun output.status → OutputBy (inputs_of files (asked.Run verb words)) output → (dna : List Base) × (start_in files words ≡ Some (Ok dna))
was_started files verb words output was by = start_by (start_in files words) (λ dna. inputs.Run verb dna words.budget words.limit) output (start_early files words) was by

-- what is made of a start
pub run_by : (files : Files) (verb : RunVerb) (words : RunWords) (dna : List Base) (output : Output) → start_in files words ≡ Some (Ok dna) → OutputBy (inputs_of files (asked.Run verb words)) output
    → IsRunOutput verb dna words.budget words.limit output
run_by files verb words dna output is by =
    subst (λ (reading : Reading (List Base)). OutputBy (then_read reading (λ dna. Some (Ok (inputs.Run verb dna words.budget words.limit)))) output) is by

pub trace_by : (files : Files) (words : RunWords) (dna : List Base) (output : Output) → start_in files words ≡ Some (Ok dna) → OutputBy (inputs_of files (asked.Trace words)) output
    → IsTraceOutput dna words.budget words.limit output
trace_by files words dna output is by =
    subst (λ (reading : Reading (List Base)). OutputBy (then_read reading (λ dna. Some (Ok (inputs.Trace dna words.budget words.limit)))) output) is by

-- files that are kept

within_most : (in_file : InFile) (contents : List ℕ) → length contents ≤ most_bytes → within in_file contents ≡ Ok contents
within_most in_file contents short = rw (le-ltb most_bytes (length contents) short) refl

pub bytes_back : (files : Files) (in_file : InFile) (name contents : List ℕ) → IsKept files name contents → bytes_in files in_file name ≡ Some (Ok contents)
bytes_back files in_file name contents kept = ap (option_map (within in_file)) kept.holds ∙ ap (λ (r : Result (List ℕ) Status). Some r) (within_most in_file contents kept.short)

letters_back : (d : List Base) → bases (letters d) ≡ d
letters_back d = filter_map-append base_of (map letter_of d) (10 ∷ []) ∙ append-nil (bases (map letter_of d)) ∙ bases_of_letters d

letters_clean : (d : List Base) (k : ℕ) → k < length (letters d) → is_other (get_or (letters d) k 0) ≡ false
letters_clean [] zero inside = refl
letters_clean [] (suc k) inside = absurd (omega (arith, inside))
letters_clean (I ∷ d) zero inside = refl
letters_clean (C ∷ d) zero inside = refl
letters_clean (F ∷ d) zero inside = refl
letters_clean (P ∷ d) zero inside = refl
letters_clean (I ∷ d) (suc k) inside = letters_clean d k (omega (arith, inside))
letters_clean (C ∷ d) (suc k) inside = letters_clean d k (omega (arith, inside))
letters_clean (F ∷ d) (suc k) inside = letters_clean d k (omega (arith, inside))
letters_clean (P ∷ d) (suc k) inside = letters_clean d k (omega (arith, inside))

judged_back : (in_file : InFile) (d : List Base) → judged_dna in_file (letters d) ≡ Ok d
judged_back in_file d =
    let none : first_other (letters d) ≡ None = no_other (letters d) (length (letters d)) (omega arith) (letters_clean d) in
    ap (λ found. unless_refused (option_map (BadBase in_file) found) (bases (letters d))) none ∙ ap (λ (l : List Base). let r : Result (List Base) Status = Ok l in r) (letters_back d)

-- DNA that was written is read
pub dna_back : (files : Files) (in_file : InFile) (name : List ℕ) (d : List Base) → IsKept files name (letters d) → dna_in files in_file name ≡ Some (Ok d)
dna_back files in_file name d kept =
    ap (λ (reading : Reading (List ℕ)). then_read reading (λ contents. Some (judged_dna in_file contents))) (bytes_back files in_file name (letters d) kept)
    ∙ ap (λ (r : Result (List Base) Status). Some r) (judged_back in_file d)

-- and a run starts from it alone
pub start_back : (files : Files) (name : List ℕ) (words : RunWords) (budget : ℕ) (d : List Base) → IsKept files name (letters d) → length d ≤ words.limit → start_in files (run_on name words budget) ≡ Some (Ok d)
start_back files name words budget d kept within =
    ap (λ (reading : Reading (List Base)). then_read reading (λ dna. Some (started words.limit dna))) (dna_back files file.Dna name d kept)
    ∙ ap (λ (r : Result (List Base) Status). Some r) (rw (le-ltb words.limit (length d) within) refl)

-- RNA that was written is read
pub rna_back : (files : Files) (name : List ℕ) (rna : List (List Base)) → AllByRecursion IsCommand rna → IsKept files name (rna_lines rna) → rna_in files name ≡ Some (Ok rna)
rna_back files name rna all kept =
    let judged : judged_rna (rna_lines rna) ≡ Ok rna = rw (lines_are_good rna all) (ap (λ (l : List (List Base)). let r : Result (List (List Base)) Status = Ok l in r) (lines_are_read rna)) in
    ap (λ (reading : Reading (List ℕ)). then_read reading (λ contents. Some (judged_rna contents))) (bytes_back files file.Rna name (rna_lines rna) kept)
    ∙ ap (λ (r : Result (List (List Base)) Status). Some r) judged

-- how many bytes a DNA is written in
pub length-letters : (d : List Base) → length (letters d) ≡ length d + 1
length-letters d = omega (arith, length-append (map letter_of d) (10 ∷ []), length-map d letter_of)

-- the output of a text that is not too long
text_by : (verb : TextVerb) (text : List ℕ) (output : Output) (long : Bool) → OutputBy (then_read (Some (if long then Err (InputTooLong (text_file verb)) else Ok text)) (λ contents. Some (Ok (inputs.Text verb contents)))) output
    → output.status ≡ Done → IsAnswer (IsMade verb text) letters output
text_by verb text output true by done = absurd (cc (by, done))
text_by verb text output false by done = by

pub given_text : (files : Files) (verb : TextVerb) (name text : List ℕ) (output : Output) → files name ≡ Some text → OutputBy (inputs_of files (asked.Text verb name)) output → output.status ≡ Done
    → IsAnswer (IsMade verb text) letters output
given_text files verb name text output holds by done =
    text_by verb text output (nat_lt most_bytes (length text))
    (subst (λ (contents : Option (List ℕ)). OutputBy (then_read (option_map (within (text_file verb)) contents) (λ bytes. Some (Ok (inputs.Text verb bytes)))) output) holds by) done

pub kept_text : (files : Files) (verb : TextVerb) (name text : List ℕ) (output : Output) → IsKept files name text → OutputBy (inputs_of files (asked.Text verb name)) output
    → IsAnswer (IsMade verb text) letters output
kept_text files verb name text output kept by =
    subst (λ (reading : Reading (List ℕ)). OutputBy (then_read reading (λ bytes. Some (Ok (inputs.Text verb bytes)))) output) (bytes_back files (text_file verb) name text kept) by
