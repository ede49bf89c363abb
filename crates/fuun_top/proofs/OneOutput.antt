-- Words over files that are told have exactly one output.
use Rattle.std.proofs.Common.{◌≡◌, false, ℕ, Option, Some, None, Result, Ok, Err, List, [], refl, sym, ap, ◌∙◌, subst, arith}
use Rattle.std.specs.List.{AllByRecursion}
use Rattle.std.specs.Option.{option_map}
use Rattle.fuun_base.specs.declared.letters.Base.{Base}
use Rattle.fuun_base.specs.Lines.{lines}
use Rattle.assembler.proofs.AnswerLemmas.{has_answer, answer_is_one}
use Rattle.picture_in.specs.Pixmap.{picture_of}
use Rattle.rna_code.specs.declared.profile.Profile.{Profile}
use Rattle.rna_code.specs.declared.profile.Profile.TheVariants as profile
use Rattle.rna_code.specs.Commands.{act_of}
use Rattle.layers.specs.Layers.{top_of}
use Rattle.painter.specs.Picture.{Picture, Builds, start}
use Rattle.painter.proofs.Outcomes.{builds_once}
use Rattle.painter.proofs.Pictures.{builds_always, start_is_picture}
use Rattle.ppm_out.specs.Ppm.{ppm}
use Rattle.exec_loop.specs.Run.{Run}
use Rattle.exec_loop.proofs.Runs.{has_run, one_run}
use Rattle.listing.proofs.ListLemmas.{has_listing, one_listing}
use Rattle.fuun_top.specs.declared.inputs.Inputs.{Inputs}
use Rattle.fuun_top.specs.declared.inputs.Inputs.TheVariants as inputs
use Rattle.fuun_top.specs.declared.request.RunVerb.{RunVerb}
use Rattle.fuun_top.specs.declared.request.TextVerb.{TextVerb}
use Rattle.fuun_top.specs.declared.request.TextVerb.TheVariants as texts
use Rattle.fuun_top.specs.declared.status.InFile.{InFile}
use Rattle.fuun_top.specs.declared.status.InFile.TheVariants as file
use Rattle.fuun_top.specs.declared.status.Status.{Status}
use Rattle.fuun_top.specs.declared.status.Status.TheVariants.{Done, Usage}
use Rattle.fuun_top.specs.Output.{Output, Body, Text, Drawing, IsBody, IsRunOutput, IsTraceOutput, IsListingOutput, IsRewindOutput, IsBenchOutput, IsAnswer, IsOutputOf, answered, OutputBy, OutputOf, plain_body, run_body, spent_is_done, status_by, refusal, picture_side, most_layers}
use Rattle.fuun_top.specs.Making.{IsExplanation, IsMade, assemble_refusal, drawn, explain_refusal, patch_prefix, source_refusal, told}
use Rattle.fuun_top.specs.Bench.{load_dna, load_limit, summary_of}
use Rattle.fuun_top.specs.OutputLaws.{IsTold, AreTold, HasOutput, HasOneOutput}
use Rattle.fuun_top.specs.Reading.{Files, Reading, then_read, within, bytes_in, dna_in, judged_dna, Called, prefix_in, prefix_files, run_files, files_of, rna_in, judged_rna, start_in, text_file, script_in, judged_script, guided_in, guiding_files, inputs_of}
use Rattle.fuun_top.specs.Asked.{sorted}
use Rattle.fuun_top.specs.declared.request.Asked.{Asked}
use Rattle.fuun_top.specs.declared.request.Asked.TheVariants.{Run as asked_run, Trace as asked_trace, Rna as asked_rna, Listing as asked_listing, Text as asked_text, Explain as asked_explain, Rewind as asked_rewind, Bench as asked_bench}
use Rattle.fuun_words.specs.declared.request.Request.{Request}
use Rattle.fuun_words.specs.declared.request.RunWords.{RunWords}
use Rattle.fuun_words.specs.Requests.{request}
use Rattle.fuun_top.specs.Texts.{letters}
use Rattle.source_compile.proofs.AnswerLemmas.{source_answer_is_one, source_has_answer}
use Rattle.tracer.specs.Lines.{trace_text}
use Rattle.rewinder.specs.declared.orders.Order.{Order}
use Rattle.explainer.specs.declared.explained.Explained.{Explained}
use Rattle.explainer.specs.Lines.{explained_text}
use Rattle.explainer.proofs.Explanations.{has_explanation, explanation_is_one}
use Rattle.rewinder.proofs.TextLemmas.{has_text, one_text}
use Rattle.workload.specs.Summary.{summary_text}

-- what has an output, and what has only one
abbrev pub Has : (Output → Type 0) → Type 0
Has Is = (output : Output) × Is output

abbrev pub HasOne : (Output → Type 0) → Type 0
HasOne Is = (a b : Output) → Is a → Is b → a ≡ b

drawn_has : (profile : Profile) (rna : List (List Base)) → (picture : Picture) × Builds (picture_side profile) (most_layers profile) (act_of profile) rna (start (picture_side profile)) picture
unfolding picture_side most_layers
drawn_has profile.Plain rna =
    let drawn = builds_always 600 10 (act_of profile.Plain) rna (start 600) (start_is_picture 600 10 (omega arith) (omega arith) (omega arith)) in
    (drawn.0, drawn.1.0)
drawn_has profile.Wide rna =
    let drawn = builds_always 1024 16 (act_of profile.Wide) rna (start 1024) (start_is_picture 1024 16 (omega arith) (omega arith) (omega arith)) in
    (drawn.0, drawn.1.0)

body_has : (status : Status) (body : Body) → Has (IsBody status body)
body_has status (Text bytes) = (record { status = status; bytes = bytes }, refl)
body_has status (Drawing profile rna) =
    let drawn = drawn_has profile rna in
    (record { status = status; bytes = ppm (picture_side profile) (top_of drawn.0.layers) }, record { picture = drawn.0; builds = drawn.1; is = refl })

body_one : (status : Status) (body : Body) → HasOne (IsBody status body)
body_one status (Text bytes) a b p q = p ∙ sym q
body_one status (Drawing profile rna) a b p q =
    p.is ∙ ap (λ (picture : Picture). record { status = status; bytes = ppm (picture_side profile) (top_of picture.layers) })
    (builds_once (picture_side profile) (most_layers profile) (act_of profile) rna (start (picture_side profile)) p.picture q.picture p.builds q.builds) ∙ sym q.is

run_has : (verb : RunVerb) (dna : List Base) (budget limit : ℕ) → Has (IsRunOutput verb dna budget limit)
run_has verb dna budget limit =
    let run = has_run limit budget dna in
    let body = body_has (status_by (spent_is_done verb) run.0.end) (run_body verb run.0) in
    (body.0, record { run = run.0; is = run.1; writes = body.1 })

run_one : (verb : RunVerb) (dna : List Base) (budget limit : ℕ) → HasOne (IsRunOutput verb dna budget limit)
run_one verb dna budget limit a b p q =
    let same = one_run limit budget dna q.run p.run q.is p.is in
    body_one (status_by (spent_is_done verb) p.run.end) (run_body verb p.run) a b p.writes
    (subst (λ (run : Run). IsBody (status_by (spent_is_done verb) run.end) (run_body verb run) b) same q.writes)

trace_has : (dna : List Base) (budget limit : ℕ) → Has (IsTraceOutput dna budget limit)
trace_has dna budget limit =
    let run = has_run limit budget dna in
    (record { status = status_by false run.0.end; bytes = trace_text 0 dna run.0.attempts }, record { run = run.0; is = run.1; tells = refl })

trace_one : (dna : List Base) (budget limit : ℕ) → HasOne (IsTraceOutput dna budget limit)
trace_one dna budget limit a b p q =
    p.tells ∙ ap (λ (run : Run). record { status = status_by false run.end; bytes = trace_text 0 dna run.attempts }) (one_run limit budget dna p.run q.run p.is q.is) ∙ sym q.tells

listing_has : (dna : List Base) (count : ℕ) → Has (IsListingOutput dna count)
listing_has dna count =
    let listing = has_listing dna count in
    (record { status = Done; bytes = listing.0 }, record { text = listing.0; lists = listing.1; is = refl })

listing_one : (dna : List Base) (count : ℕ) → HasOne (IsListingOutput dna count)
listing_one dna count a b p q =
    p.is ∙ ap (λ (text : List ℕ). record { status = Done; bytes = text }) (one_listing dna count p.text q.text p.lists q.lists) ∙ sym q.is

bench_has : (seed size rounds : ℕ) → Has (IsBenchOutput seed size rounds)
bench_has seed size rounds =
    let run = has_run load_limit rounds (load_dna seed size rounds) in
    (record { status = Done; bytes = summary_text (summary_of run.0) }, record { run = run.0; is = run.1; tells = refl })

bench_one : (seed size rounds : ℕ) → HasOne (IsBenchOutput seed size rounds)
bench_one seed size rounds a b p q =
    p.tells ∙ ap (λ (run : Run). record { status = Done; bytes = summary_text (summary_of run) }) (one_run load_limit rounds (load_dna seed size rounds) p.run q.run p.is q.is) ∙ sym q.tells

rewind_has : (dna : List Base) (orders : List Order) (limit : ℕ) → Has (IsRewindOutput dna orders limit)
rewind_has dna orders limit =
    let told = has_text limit dna orders 0 dna (omega arith) (record { attempts = []; leads = refl; count = refl }) in
    (record { status = Done; bytes = told.1 }, record { last = told.0; text = told.1; writes = told.2; is = refl })

rewind_one : (dna : List Base) (orders : List Order) (limit : ℕ) → HasOne (IsRewindOutput dna orders limit)
rewind_one dna orders limit a b p q =
    p.is ∙ ap (λ (text : List ℕ). record { status = Done; bytes = text }) (one_text limit dna orders 0 p.last q.last p.text q.text p.writes q.writes).1 ∙ sym q.is

-- what is made so has an output, and only one
answer_has : {A : Type 0} (Is : Result A Status → Type 0) (text : A → List ℕ) → ((made : Result A Status) × Is made) → Has (IsAnswer Is text)
answer_has Is text (made, is) = (answered text made, record { made = made; is = is; tells = refl })

answer_one : {A : Type 0} (Is : Result A Status → Type 0) (text : A → List ℕ) → ((a b : Result A Status) → Is a → Is b → a ≡ b) → HasOne (IsAnswer Is text)
answer_one Is text once a b p q = p.tells ∙ ap (answered text) (once p.made q.made p.is q.is) ∙ sym q.tells

made_has : (verb : TextVerb) (text : List ℕ) → (made : Result (List Base) Status) × IsMade verb text made
made_has (texts.Patch limit) text = (patch_prefix limit text, refl)
made_has texts.Assemble text = let answer = has_answer (lines text) in (told assemble_refusal answer.0, record { answer = answer.0; is = answer.1; tells = refl })
made_has (texts.Compile limit) text = let answer = source_has_answer limit text in (told source_refusal answer.0, record { answer = answer.0; is = answer.1; tells = refl })
made_has (texts.Picture limit) text = (drawn limit (picture_of text), refl)

made_one : (verb : TextVerb) (text : List ℕ) (a b : Result (List Base) Status) → IsMade verb text a → IsMade verb text b → a ≡ b
made_one (texts.Patch limit) text a b p q = p ∙ sym q
made_one texts.Assemble text a b p q = p.tells ∙ ap (told assemble_refusal) (answer_is_one (lines text) p.answer q.answer p.is q.is) ∙ sym q.tells
made_one (texts.Compile limit) text a b p q = p.tells ∙ ap (told source_refusal) (source_answer_is_one limit text p.answer q.answer p.is q.is) ∙ sym q.tells
made_one (texts.Picture limit) text a b p q = p ∙ sym q

explanation_has : (prefix : List Base) (len attempts limit : ℕ) → (made : Result Explained Status) × IsExplanation prefix len attempts limit made
explanation_has prefix len attempts limit =
    let answer = has_explanation prefix len attempts limit in
    (told explain_refusal answer.0, record { answer = answer.0; is = answer.1; tells = refl })

explanation_one : (prefix : List Base) (len attempts limit : ℕ) (a b : Result Explained Status) → IsExplanation prefix len attempts limit a → IsExplanation prefix len attempts limit b → a ≡ b
explanation_one prefix len attempts limit a b p q =
    p.tells ∙ ap (told explain_refusal) (explanation_is_one prefix len attempts limit p.answer q.answer p.is q.is) ∙ sym q.tells

output_has : (inputs : Inputs) → Has (IsOutputOf inputs)
output_has (inputs.Run verb dna budget limit) = run_has verb dna budget limit
output_has (inputs.Trace dna budget limit) = trace_has dna budget limit
output_has (inputs.Plain plain) = body_has Done (plain_body plain)
output_has (inputs.Listing dna count) = listing_has dna count
output_has (inputs.Explain prefix len attempts limit) = answer_has (IsExplanation prefix len attempts limit) explained_text (explanation_has prefix len attempts limit)
output_has (inputs.Rewind dna orders limit) = rewind_has dna orders limit
output_has (inputs.Text verb text) = answer_has (IsMade verb text) letters (made_has verb text)
output_has (inputs.Bench seed size rounds) = bench_has seed size rounds

pub output_one : (inputs : Inputs) → HasOne (IsOutputOf inputs)
output_one (inputs.Run verb dna budget limit) = run_one verb dna budget limit
output_one (inputs.Trace dna budget limit) = trace_one dna budget limit
output_one (inputs.Plain plain) = body_one Done (plain_body plain)
output_one (inputs.Listing dna count) = listing_one dna count
output_one (inputs.Explain prefix len attempts limit) = answer_one (IsExplanation prefix len attempts limit) explained_text (explanation_one prefix len attempts limit)
output_one (inputs.Rewind dna orders limit) = rewind_one dna orders limit
output_one (inputs.Text verb text) = answer_one (IsMade verb text) letters (made_one verb text)
output_one (inputs.Bench seed size rounds) = bench_one seed size rounds

-- it is known what is read
abbrev Known : {A : Type 0} → Reading A → Type 0
Known {A} reading = (read : Result A Status) × (reading ≡ Some read)

then_known : {A B : Type 0} (reading : Reading A) (next : A → Reading B) → Known reading → ((value : A) → Known (next value)) → Known (then_read reading next)
then_known None next (read, is) known = absurd (cc is)
then_known (Some (Err status)) next (read, is) known = (Err status, refl)
then_known (Some (Ok value)) next (read, is) known = known value

bytes_known : (files : Files) (in_file : InFile) (name : List ℕ) → IsTold files name → Known (bytes_in files in_file name)
bytes_known files in_file name (contents, told) = (within in_file contents, ap (option_map (within in_file)) told)

dna_known : (files : Files) (in_file : InFile) (name : List ℕ) → IsTold files name → Known (dna_in files in_file name)
dna_known files in_file name told =
    then_known (bytes_in files in_file name) (λ contents. Some (judged_dna in_file contents)) (bytes_known files in_file name told)
    (λ contents. (judged_dna in_file contents, refl))

rna_known : (files : Files) (name : List ℕ) → IsTold files name → Known (rna_in files name)
rna_known files name told =
    then_known (bytes_in files file.Rna name) (λ contents. Some (judged_rna contents)) (bytes_known files file.Rna name told)
    (λ contents. (judged_rna contents, refl))

-- the contents of each file are told
abbrev Each : Files → List Called → Type 0
Each files called = AllByRecursion (λ file. IsTold files file.1) called

prefix_known : (files : Files) (prefix : Option (List ℕ)) → Each files (prefix_files prefix) → Known (prefix_in files prefix)
prefix_known files None told = (_, refl)
prefix_known files (Some name) told = dna_known files file.Prefix name told.0

start_known : (files : Files) (words : RunWords) → Each files (run_files words) → Known (start_in files words)
start_known files words told =
    then_known (dna_in files file.Dna words.dna) _ (dna_known files file.Dna words.dna told.0) (λ dna.
    then_known (prefix_in files words.prefix) _ (prefix_known files words.prefix told.1) (λ prefix. (_, refl)))

script_known : (files : Files) (name : List ℕ) → IsTold files name → Known (script_in files name)
script_known files name told =
    then_known (bytes_in files file.Script name) (λ contents. Some (judged_script contents)) (bytes_known files file.Script name told)
    (λ contents. (judged_script contents, refl))

guided_known : (files : Files) (prefix : Option (List ℕ)) (script : List ℕ) → Each files (guiding_files prefix script) → Known (guided_in files prefix script)
guided_known files None script told = then_known (script_in files script) _ (script_known files script told.0) (λ orders. (_, refl))
guided_known files (Some name) script told =
    then_known (dna_in files file.Prefix name) _ (dna_known files file.Prefix name told.0) (λ bases.
    then_known (script_in files script) _ (script_known files script told.1.0) (λ orders. (_, refl)))

inputs_known : (files : Files) (asked : Asked) → Each files (files_of asked) → Known (inputs_of files asked)
inputs_known files (asked_run verb words) told =
    then_known (start_in files words) (λ dna. Some (Ok (inputs.Run verb dna words.budget words.limit))) (start_known files words told) (λ dna. (_, refl))
inputs_known files (asked_trace words) told =
    then_known (start_in files words) (λ dna. Some (Ok (inputs.Trace dna words.budget words.limit))) (start_known files words told) (λ dna. (_, refl))
inputs_known files (asked_rna verb name) told = then_known (rna_in files name) _ (rna_known files name told.0) (λ commands. (_, refl))
inputs_known files (asked_listing name count) told = then_known (dna_in files file.Dna name) _ (dna_known files file.Dna name told.0) (λ dna. (_, refl))
inputs_known files (asked_explain words) told = then_known (dna_in files file.Prefix words.prefix) _ (dna_known files file.Prefix words.prefix told.0) (λ prefix. (_, refl))
inputs_known files (asked_rewind words) told =
    then_known (dna_in files file.Dna words.dna) _ (dna_known files file.Dna words.dna told.0) (λ dna.
    then_known (guided_in files words.prefix words.script) _ (guided_known files words.prefix words.script told.1) (λ guided. (_, refl)))
inputs_known files (asked_text verb name) told = then_known (bytes_in files (text_file verb) name) _ (bytes_known files (text_file verb) name told.0) (λ contents. (_, refl))
inputs_known files (asked_bench seed size rounds) told = (_, refl)

by_has : (reading : Reading Inputs) → Known reading → Has (OutputBy reading)
by_has None (read, is) = absurd (cc is)
by_has (Some (Err status)) known = (refusal status, refl)
by_has (Some (Ok inputs)) known = output_has inputs

by_one : (reading : Reading Inputs) → HasOne (OutputBy reading)
by_one None a b p q = absurd p
by_one (Some (Err status)) a b p q = p ∙ sym q
by_one (Some (Ok inputs)) a b p q = output_one inputs a b p q

asked_has : (files : Files) (asked : Option Request) → AreTold files asked → Has (OutputOf files asked)
asked_has files None told = (refusal Usage, refl)
asked_has files (Some asked) told = by_has (inputs_of files (sorted asked)) (inputs_known files (sorted asked) told)

asked_one : (files : Files) (asked : Option Request) → HasOne (OutputOf files asked)
asked_one files None a b p q = p ∙ sym q
asked_one files (Some asked) a b p q = by_one (inputs_of files (sorted asked)) a b p q

pub has_output : HasOutput
has_output files words told = asked_has files (request words) told

pub one_output : HasOneOutput
one_output files words a b p q = asked_one files (request words) a b p q
