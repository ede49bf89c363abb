-- What the writing room's functions wrote.
use Rattle.std.proofs.Common.{◌≡◌, ◌≢◌, inl, inr, ℕ, true, false, Option, Result, Ok, Err, List, refl, sym, ap, ◌∙◌, subst}
use Rattle.fuun_base.specs.declared.letters.Base.{Base}
use Rattle.fuun_io.specs.Counts.{HasCause, Rose}
use Rattle.fuun_io.specs.Written.{appended, Puts, PutsFront}
use Rattle.fuun_io.proofs.WrittenLemmas.{appended-nil}
use Rattle.canvas.specs.Pixels.{Rgba}
use Rattle.dna_reader.specs.RnaLines.{rna_lines}
use Rattle.exec_loop.specs.declared.machine.RunEnd.{RunEnd}
use Rattle.exec_loop.specs.Run.{Run, IsRun}
use Rattle.exec_loop.specs.State.{State}
use Rattle.layers.specs.Layers.{top_of}
use Rattle.painter.specs.Picture.{Picture}
use Rattle.ppm_out.specs.Ppm.{ppm}
use Rattle.rna_code.specs.declared.profile.Profile.{Profile}
use Rattle.rna_code.specs.declared.profile.Profile.TheVariants as profile
use Rattle.fuun_top.specs.declared.inputs.Plain.{Plain}
use Rattle.fuun_top.specs.declared.request.RunVerb.{RunVerb}
use Rattle.fuun_top.specs.declared.request.RunVerb.TheVariants as verbs
use Rattle.fuun_top.specs.declared.status.Status.{Status}
use Rattle.fuun_top.specs.declared.status.Status.TheVariants.{Done, WriteFault, NoMemory}
use Rattle.fuun_top.specs.Output.{Output, Text, Drawing, IsBody, IsRunOutput, IsTraceOutput, IsListingOutput, IsRewindOutput, IsBenchOutput, IsAnswer, plain_body, refusal, status_by, picture_side, most_layers}
use Rattle.fuun_top.specs.Texts.{letters}
use Rattle.fuun_top.specs.WritingRoom.{Wrote, Whole, CutOff, SpentRoom, NoRoom, Makes, Sums, DrewRun, IsImageOf, status_after, status_listed, status_rewound, status_traced}
use Rattle.tracer.specs.Lines.{trace_text}
use Rattle.rewinder.specs.declared.orders.Order.{Order}
use Rattle.rewinder.specs.declared.orders.RewindError.{RewindError}
use Rattle.rewinder.specs.declared.orders.RewindError.TheVariants as rewind
use Rattle.rewinder.specs.Rewinding.{Rewinding, AllCommanded}
use Rattle.rewinder.specs.Texts.{Writes}
use Rattle.workload.specs.declared.summary.Summary.{Summary}
use Rattle.workload.specs.Summary.{summary_text}
use Rattle.fuun_top.specs.Bench.{load_dna, load_limit}
use Rattle.tracer.specs.Traced.{IsTraced}
use Rattle.listing.specs.declared.pairs.ListError.{ListError}
use Rattle.listing.specs.declared.pairs.ListError.TheVariants as listing
use Rattle.listing.specs.Lists.{PutsListing}
use Rattle.listing.specs.Names.{names}

-- an output was put, whole or in part
pub output_put : {T E : Type 0} (Is : Output → Type 0) (output : Output) (written : Result T E) (result : Status) (old new : Option (List ℕ)) (before after : ℕ)
    → Is output → result ≡ status_after written output.status → Puts written old new output.bytes → HasCause before after written → Wrote Is result old new before after
output_put Is output (Ok value) result old new before after is status put kept = Whole output is status put kept
output_put Is output (Err error) result old new before after is status front rose = CutOff output is status front rose

-- the text of a value was put, whole or in part
pub answer_put : {A T E : Type 0} (Is : Result A Status → Type 0) (text : A → List ℕ) (value : A) (written : Result T E) (result : Status) (old new : Option (List ℕ)) (before after : ℕ)
    → Makes Is (Ok value) → result ≡ status_after written Done → Puts written old new (text value) → HasCause before after written → Wrote (IsAnswer Is text) result old new before after
answer_put Is text value written result old new before after (inl is) told puts cause =
    output_put (IsAnswer Is text) (record { status = Done; bytes = text value }) written result old new before after (record { made = Ok value; is = is; tells = refl }) told puts cause
answer_put Is text value written result old new before after (inr e) told puts cause = absurd (cc e)

-- there was a refusal, or no memory
pub answer_refused : {A : Type 0} (Is : Result A Status → Type 0) (text : A → List ℕ) (status : Status) (told : Option (List ℕ)) (faults : ℕ)
    → Makes Is (Err status) → Wrote (IsAnswer Is text) status told told faults faults
answer_refused Is text status told faults (inl is) = Whole (refusal status) (record { made = Err status; is = is; tells = refl }) refl (sym (appended-nil told)) refl
answer_refused Is text status told faults (inr e) = NoRoom (cc e) refl refl

-- what is of one kind is of another
wrote_as : (Is Other : Output → Type 0) (result : Status) (old new : Option (List ℕ)) (before after : ℕ) → ((output : Output) → Is output → Other output)
    → Wrote Is result old new before after → Wrote Other result old new before after
wrote_as Is Other result old new before after also (Whole output is status put kept) = Whole output (also output is) status put kept
wrote_as Is Other result old new before after also (CutOff output is fault front rose) = CutOff output (also output is) fault front rose
wrote_as Is Other result old new before after also (SpentRoom output is memory front kept) = SpentRoom output (also output is) memory front kept
wrote_as Is Other result old new before after also (NoRoom memory same kept) = NoRoom memory same kept

-- what was written to a sink that was lent, once it is given back
pub wrote_lent : {K : Type 0} (bytes : K → Option (List ℕ)) (faults : K → ℕ) (Is : Output → Type 0) (result : Status) (lent first last back : K) → first ≡ lent → back ≡ last
    → Wrote Is result (bytes first) (bytes last) (faults first) (faults last) → Wrote Is result (bytes lent) (bytes back) (faults lent) (faults back)
wrote_lent bytes faults Is result lent first last back same given wrote =
    subst (λ b. Wrote Is result (bytes lent) (bytes b) (faults lent) (faults b)) (sym given)
    (subst (λ f. Wrote Is result (bytes f) (bytes last) (faults f) (faults last)) same wrote)

-- what a machine on a DNA wrote
pub run_wrote : (verb : RunVerb) (machine : State) (dna : List Base) (budget limit : ℕ) (result : Status) (old new : Option (List ℕ)) (before after : ℕ) → machine.dna ≡ dna → machine.limit ≡ limit
    → Wrote (IsRunOutput verb machine.dna budget machine.limit) result old new before after → Wrote (IsRunOutput verb dna budget limit) result old new before after
run_wrote verb machine dna budget limit result old new before after same same_limit wrote =
    subst (λ l. Wrote (IsRunOutput verb dna budget l) result old new before after) same_limit
    (subst (λ d. Wrote (IsRunOutput verb d budget machine.limit) result old new before after) same wrote)

-- the lines of a run's RNA
abbrev rna_output : Run → Output
rna_output run = record { status = status_by false run.end; bytes = rna_lines run.rna }

is_rna : (dna : List Base) (budget limit : ℕ) (run : Run) → IsRun dna budget limit run → IsRunOutput verbs.Rna dna budget limit (rna_output run)
is_rna dna budget limit run is = record { run = run; is = is; writes = refl }

pub rna_whole : (dna : List Base) (budget limit : ℕ) (run : Run) (end : RunEnd) (result : Status) (old new : Option (List ℕ)) (before after : ℕ) → IsRun dna budget limit run → run.end ≡ end
    → result ≡ status_by false end → new ≡ appended old (rna_lines run.rna) → after ≡ before → Wrote (IsRunOutput verbs.Rna dna budget limit) result old new before after
rna_whole dna budget limit run end result old new before after is ends told put kept =
    Whole (rna_output run) (is_rna dna budget limit run is) (told ∙ ap (status_by false) (sym ends)) put kept

pub rna_cut_off : (dna : List Base) (budget limit : ℕ) (run : Run) (old new : Option (List ℕ)) (before after : ℕ) → IsRun dna budget limit run
    → PutsFront old new (rna_lines run.rna) → Rose before after → Wrote (IsRunOutput verbs.Rna dna budget limit) WriteFault old new before after
rna_cut_off dna budget limit run old new before after is front rose = CutOff (rna_output run) (is_rna dna budget limit run is) refl front rose

pub rna_spent : (dna : List Base) (budget limit : ℕ) (run : Run) (old new : Option (List ℕ)) (before after : ℕ) → IsRun dna budget limit run
    → PutsFront old new (rna_lines run.rna) → after ≡ before → Wrote (IsRunOutput verbs.Rna dna budget limit) NoMemory old new before after
rna_spent dna budget limit run old new before after is front kept = SpentRoom (rna_output run) (is_rna dna budget limit run is) refl front kept

-- the letters of the DNA where a run ended
pub dna_put : {T E : Type 0} (dna : List Base) (budget limit : ℕ) (run : Run) (end : RunEnd) (left : List Base) (written : Result T E) (result : Status) (old new : Option (List ℕ)) (before after : ℕ)
    → IsRun dna budget limit run → run.end ≡ end → run.dna ≡ left → result ≡ status_after written (status_by true end) → Puts written old new (letters left) → HasCause before after written
    → Wrote (IsRunOutput verbs.Dna dna budget limit) result old new before after
dna_put dna budget limit run end left written result old new before after is ends stands told puts cause =
    let writes : record { status = status_by true end; bytes = letters left } ≡ record { status = status_by true run.end; bytes = letters run.dna } =
    ap (λ e. record { status = status_by true e; bytes = letters left }) (sym ends) ∙ ap (λ d. record { status = status_by true run.end; bytes = letters d }) (sym stands) in
    output_put (IsRunOutput verbs.Dna dna budget limit) (record { status = status_by true end; bytes = letters left }) written result old new before after
    (record { run = run; is = is; writes = writes }) told puts cause

-- the picture that a run's RNA drew
pub image_put : {T E : Type 0} (side most : ℕ) (profile : Profile) (dna : List Base) (budget limit : ℕ) (end : RunEnd) (picture : Picture) (top : List Rgba) (written : Result T E) (result : Status)
    (old new : Option (List ℕ)) (before after : ℕ) → DrewRun side most profile dna budget limit end picture → top ≡ top_of picture.layers → result ≡ status_after written (status_by false end)
    → Puts written old new (ppm side top) → HasCause before after written → Wrote (IsImageOf side most profile dna budget limit) result old new before after
image_put side most profile dna budget limit end picture top written result old new before after drew is_top told puts cause =
    let output : Output = record { status = status_by false end; bytes = ppm side top } in
    let same : output ≡ record { status = status_by false drew.run.end; bytes = ppm side (top_of picture.layers) } =
    ap (λ e. record { status = status_by false e; bytes = ppm side top }) (sym drew.ends) ∙ ap (λ t. record { status = status_by false drew.run.end; bytes = ppm side t }) is_top in
    output_put (IsImageOf side most profile dna budget limit) output written result old new before after
    (record { run = drew.run; is = drew.is; writes = record { picture = picture; builds = drew.builds; is = same } }) told puts cause

pub plain_image : (dna : List Base) (budget limit : ℕ) (result : Status) (old new : Option (List ℕ)) (before after : ℕ)
    → Wrote (IsImageOf 600 10 profile.Plain dna budget limit) result old new before after → Wrote (IsRunOutput (verbs.Image profile.Plain) dna budget limit) result old new before after
unfolding picture_side most_layers
plain_image dna budget limit result old new before after wrote =
    wrote_as _ (IsRunOutput (verbs.Image profile.Plain) dna budget limit) result old new before after (λ output image. record { run = image.run; is = image.is; writes = image.writes }) wrote

pub wide_image : (dna : List Base) (budget limit : ℕ) (result : Status) (old new : Option (List ℕ)) (before after : ℕ)
    → Wrote (IsImageOf 1024 16 profile.Wide dna budget limit) result old new before after → Wrote (IsRunOutput (verbs.Image profile.Wide) dna budget limit) result old new before after
unfolding picture_side most_layers
wide_image dna budget limit result old new before after wrote =
    wrote_as _ (IsRunOutput (verbs.Image profile.Wide) dna budget limit) result old new before after (λ output image. record { run = image.run; is = image.is; writes = image.writes }) wrote

-- what is drawn of commands
pub drawing_wrote : (inputs : Plain) (profile : Profile) (commands : List (List Base)) (result : Status) (old new : Option (List ℕ)) (before after : ℕ)
    → Wrote (IsBody Done (Drawing profile commands)) result old new before after → Drawing profile commands ≡ plain_body inputs → Wrote (IsBody Done (plain_body inputs)) result old new before after
drawing_wrote inputs profile commands result old new before after wrote same = subst (λ body. Wrote (IsBody Done body) result old new before after) same wrote

-- the names of commands
pub names_wrote : {T E : Type 0} (inputs : Plain) (profile : Profile) (commands : List (List Base)) (written : Result T E) (result : Status) (old new : Option (List ℕ)) (before after : ℕ)
    → result ≡ status_after written Done → Puts written old new (names profile commands) → HasCause before after written → Text (names profile commands) ≡ plain_body inputs
    → Wrote (IsBody Done (plain_body inputs)) result old new before after
names_wrote inputs profile commands written result old new before after told puts cause same =
    subst (λ body. Wrote (IsBody Done body) result old new before after) same
    (output_put (IsBody Done (Text (names profile commands))) (record { status = Done; bytes = names profile commands }) written result old new before after refl told puts cause)

-- a listing was put, whole or in part
pub listing_put : {T : Type 0} (dna : List Base) (count : ℕ) (listed : Result T ListError) (result : Status) (old new : Option (List ℕ)) (before after : ℕ)
    → PutsListing dna count listed old new → (listed ≡ Err listing.WriteFault → Rose before after) → (listed ≢ Err listing.WriteFault → after ≡ before)
    → result ≡ status_listed listed → Wrote (IsListingOutput dna count) result old new before after
listing_put dna count (Ok value) result old new before after put rose kept told =
    Whole (record { status = Done; bytes = put.text }) (record { text = put.text; lists = put.is; is = refl }) told put.puts (kept (λ e. cc e))
listing_put dna count (Err listing.WriteFault) result old new before after put rose kept told =
    CutOff (record { status = Done; bytes = put.text }) (record { text = put.text; lists = put.is; is = refl }) told put.puts (rose refl)
listing_put dna count (Err listing.NoMemory) result old new before after put rose kept told =
    SpentRoom (record { status = Done; bytes = put.text }) (record { text = put.text; lists = put.is; is = refl }) told put.puts (kept (λ e. cc e))

-- what is told of a run on a load was put, whole or in part
pub summary_put : {T E : Type 0} (seed size rounds : ℕ) (summary : Summary) (written : Result T E) (result : Status) (old new : Option (List ℕ)) (before after : ℕ)
    → Sums (load_dna seed size rounds) rounds load_limit summary → result ≡ status_after written Done → Puts written old new (summary_text summary) → HasCause before after written
    → Wrote (IsBenchOutput seed size rounds) result old new before after
summary_put seed size rounds summary written result old new before after sums told puts cause =
    output_put (IsBenchOutput seed size rounds) (record { status = Done; bytes = summary_text summary }) written result old new before after
    (record { run = sums.run; is = sums.is; tells = ap (λ (s : Summary). record { status = Done; bytes = summary_text s }) sums.tells }) told puts cause

-- what the orders of a script write, from the start on
rewound_is : {T E : Type 0} (old new : Rewinding) (orders : List Order) (obeyed : Result T E) (told now : Option (List ℕ)) → old.attempt ≡ 0 → (put : AllCommanded old new orders obeyed told now)
    → IsRewindOutput old.start orders old.limit (record { status = Done; bytes = put.text })
rewound_is old new orders obeyed told now first put = record {
  last = put.last;
  text = put.text;
  writes = subst (λ place. Writes old.limit old.start orders place put.last put.text) first put.writes;
  is = refl;
}

-- what the orders of a script write was put, whole or in part
rewound_put : {T : Type 0} (old new : Rewinding) (orders : List Order) (obeyed : Result T RewindError) (result : Status) (told now : Option (List ℕ)) (before after : ℕ)
    → old.attempt ≡ 0 → AllCommanded old new orders obeyed told now → (obeyed ≡ Err rewind.WriteFault → Rose before after) → (obeyed ≢ Err rewind.WriteFault → after ≡ before)
    → result ≡ status_rewound obeyed → Wrote (IsRewindOutput old.start orders old.limit) result told now before after
rewound_put old new orders (Ok value) result told now before after first put rose kept is =
    Whole (record { status = Done; bytes = put.text }) (rewound_is old new orders (Ok value) told now first put) is put.puts (kept (λ e. cc e))
rewound_put old new orders (Err rewind.WriteFault) result told now before after first put rose kept is =
    CutOff (record { status = Done; bytes = put.text }) (rewound_is old new orders (Err rewind.WriteFault) told now first put) is put.puts (rose refl)
rewound_put old new orders (Err rewind.NoMemory) result told now before after first put rose kept is =
    SpentRoom (record { status = Done; bytes = put.text }) (rewound_is old new orders (Err rewind.NoMemory) told now first put) is put.puts (kept (λ e. cc e))

pub rewind_put : {T : Type 0} (old new : Rewinding) (dna : List Base) (orders : List Order) (limit : ℕ) (obeyed : Result T RewindError) (result : Status) (told now : Option (List ℕ)) (before after : ℕ)
    → old ≡ record { start = dna; limit = limit; attempt = 0; dna = dna; reached = 0 } → AllCommanded old new orders obeyed told now
    → (obeyed ≡ Err rewind.WriteFault → Rose before after) → (obeyed ≢ Err rewind.WriteFault → after ≡ before)
    → result ≡ status_rewound obeyed → Wrote (IsRewindOutput dna orders limit) result told now before after
rewind_put old new dna orders limit obeyed result told now before after made put rose kept is =
    subst (λ (r : Rewinding). Wrote (IsRewindOutput r.start orders r.limit) result told now before after) made
    (rewound_put old new orders obeyed result told now before after (ap (λ (r : Rewinding). r.attempt) made) put rose kept is)

-- a traced run was put, whole or in part
traced_put : (old new : State) (budget : ℕ) (traced : Result RunEnd ListError) (result : Status) (told now : Option (List ℕ)) (before after : ℕ)
    → IsTraced old new budget traced told now → (traced ≡ Err listing.WriteFault → Rose before after) → (traced ≢ Err listing.WriteFault → after ≡ before)
    → result ≡ status_traced traced → Wrote (IsTraceOutput old.dna budget old.limit) result told now before after
traced_put old new budget (Ok end) result told now before after put rose kept is =
    Whole (record { status = status_by false put.run.end; bytes = trace_text 0 old.dna put.run.attempts }) (record { run = put.run; is = put.is; tells = refl })
    (is ∙ ap (status_by false) (sym put.ends)) put.lines (kept (λ e. cc e))
traced_put old new budget (Err listing.WriteFault) result told now before after put rose kept is =
    CutOff (record { status = status_by false put.run.end; bytes = trace_text 0 old.dna put.run.attempts }) (record { run = put.run; is = put.is; tells = refl })
    is put.part (rose refl)
traced_put old new budget (Err listing.NoMemory) result told now before after put rose kept is =
    SpentRoom (record { status = status_by false put.run.end; bytes = trace_text 0 old.dna put.run.attempts }) (record { run = put.run; is = put.is; tells = refl })
    is put.part (kept (λ e. cc e))

pub trace_put : (old new : State) (dna : List Base) (budget limit : ℕ) (traced : Result RunEnd ListError) (result : Status) (told now : Option (List ℕ)) (before after : ℕ)
    → old.dna ≡ dna → old.limit ≡ limit
    → IsTraced old new budget traced told now → (traced ≡ Err listing.WriteFault → Rose before after) → (traced ≢ Err listing.WriteFault → after ≡ before)
    → result ≡ status_traced traced → Wrote (IsTraceOutput dna budget limit) result told now before after
trace_put old new dna budget limit traced result told now before after same same_limit put rose kept is =
    subst (λ d. Wrote (IsTraceOutput d budget limit) result told now before after) same
    (subst (λ l. Wrote (IsTraceOutput old.dna budget l) result told now before after) same_limit (traced_put old new budget traced result told now before after put rose kept is))
