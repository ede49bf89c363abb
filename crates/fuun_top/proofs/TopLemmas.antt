-- The two rooms together: what was read and what was written, against the output of the words.
use Rattle.std.proofs.Common.{◌≡◌, ◌⊎◌, inl, inr, ℕ, true, Option, Some, None, Result, Ok, Err, List, [], ◌∷◌, ◌++◌, IfSome, refl, sym, ap, ◌∙◌, subst}
use Rattle.std.proofs.lemmas.Bool.{false≢true}
use Rattle.fuun_io.specs.Counts.{Rose}
use Rattle.fuun_io.specs.Written.{appended, PutsFront}
use Rattle.fuun_io.proofs.WrittenLemmas.{appended-nil, PutsFront-all, PutsFront-none}
use Rattle.fuun_top.specs.declared.inputs.Inputs.{Inputs}
use Rattle.fuun_top.specs.declared.inputs.Inputs.TheVariants as inputs
use Rattle.fuun_top.specs.declared.status.InFile.{InFile}
use Rattle.fuun_top.specs.declared.status.Status.{Status}
use Rattle.fuun_top.specs.declared.status.Status.TheVariants.{Done, TooLong, InputTooLong, ReadFault, WriteFault, NoMemory}
use Rattle.fuun_top.specs.Answer.{AnswersOrFails, Grows, IsUnmade, is_made_first}
use Rattle.fuun_top.specs.Output.{Output, IsOutputOf, OutputBy, OutputOf, answered}
use Rattle.fuun_top.specs.Asked.{sorted}
use Rattle.fuun_top.specs.declared.request.Asked.{Asked}
use Rattle.fuun_top.specs.Reading.{Files, Reading, inputs_of}
use Rattle.fuun_top.specs.ReadingRoom.{are_made_first}
use Rattle.fuun_top.specs.Texts.{letters}
use Rattle.explainer.specs.Lines.{explained_text}
use Rattle.fuun_words.specs.declared.request.Request.{Request}
use Rattle.fuun_top.specs.Stages.{ByOutput, stage_of, Stage, ByWords, ByReading, ByContents, ByWriting, ByMemory, IsAfterReading, IsBeforeOutput, IsOfInputs, IsOfOutput, IsRefusal}
use Rattle.fuun_top.specs.WritingRoom.{Wrote, Whole, CutOff, SpentRoom, NoRoom}
use Rattle.fuun_top.proofs.OneOutput.{output_one}
use Rattle.fuun_top.proofs.OutputStages.{IsTold, output_told, told_stage}

-- the output of words is that of what they ask for
pub asked_output : (files : Files) (found : Option Request) (request : Request) (asked : Asked) (output : Output) → found ≡ Some request → asked ≡ sorted request
    → OutputOf files found output → OutputBy (inputs_of files asked) output
asked_output files found request asked output taken is by =
    subst (λ a. OutputBy (inputs_of files a) output) (sym is) (subst (λ f. OutputOf files f output) taken by)

abbrev pub Agrees : Reading Inputs → Result Inputs Status → Type 0
Agrees known result = IfSome known (λ read. (result ≡ read) ⊎ (result ≡ Err NoMemory) ⊎ (result ≡ Err ReadFault))

-- the output of inputs that were read
pub read_output : (known : Reading Inputs) (inputs : Inputs) (output : Output) → Agrees known (Ok inputs) → OutputBy known output → IsOutputOf inputs output
read_output None inputs output agrees by = absurd by
read_output (Some (Err status)) inputs output (inl e) by = absurd (cc e)
read_output (Some (Err status)) inputs output (inr (inl e)) by = absurd (cc e)
read_output (Some (Err status)) inputs output (inr (inr e)) by = absurd (cc e)
read_output (Some (Ok known)) inputs output (inl e) by = subst (λ i. IsOutputOf i output) (cc e) by
read_output (Some (Ok known)) inputs output (inr (inl e)) by = absurd (cc e)
read_output (Some (Ok known)) inputs output (inr (inr e)) by = absurd (cc e)

-- an output without bytes is put whole by any front of it
none_of_none : (front rest : List ℕ) → [] ≡ front ++ rest → front ≡ []
none_of_none [] rest is = refl
none_of_none (byte ∷ front) rest is = absurd (cc is)

none_put : (old new : Option (List ℕ)) (bytes : List ℕ) → bytes ≡ [] → PutsFront old new bytes → new ≡ old
none_put old new bytes none put = put.put ∙ ap (appended old) (none_of_none put.front put.rest (sym none ∙ put.whole)) ∙ appended-nil old

-- a result that no output has came with a front of it
late_whole : (result : Status) (old new : Option (List ℕ)) (output : Output) → IsTold output → (stage_of result ≡ ByOutput → ⊥) → result ≡ output.status → PutsFront old new output.bytes
    → new ≡ appended old output.bytes
late_whole result old new output (inl stage) late same put = absurd (late (ap stage_of same ∙ stage))
late_whole result old new output (inr told) late same put = none_put old new output.bytes told.1 put ∙ sym (ap (appended old) told.1 ∙ appended-nil old)

-- a refusal of inputs
pub refused_answer : (known : Reading Inputs) (status : Status) (output : Output) → Agrees known (Err status) → OutputBy known output → AnswersOrFails output.status status
refused_answer None status output agrees by = absurd by
refused_answer (Some (Err refused)) status output (inl e) by = inl (cc (e, by))
refused_answer (Some (Err refused)) status output (inr (inl e)) by = inr (inl (cc e))
refused_answer (Some (Err refused)) status output (inr (inr e)) by = inr (inr (inl (cc e)))
refused_answer (Some (Ok inputs)) status output (inl e) by = absurd (cc e)
refused_answer (Some (Ok inputs)) status output (inr (inl e)) by = inr (inl (cc e))
refused_answer (Some (Ok inputs)) status output (inr (inr e)) by = inr (inr (inl (cc e)))

pub refused_whole : (known : Reading Inputs) (status : Status) (output : Output) (told : Option (List ℕ)) → IsOfInputs (stage_of status) → OutputBy known output
    → status ≡ output.status → told ≡ appended told output.bytes
refused_whole None status output told early by same = absurd by
refused_whole (Some (Err refused)) status output told early by same = sym (ap (λ (o : Output). appended told o.bytes) by ∙ appended-nil told)
refused_whole (Some (Ok inputs)) status output told early by same =
    late_whole status told told output (output_told inputs output by) (λ stage. subst IsOfInputs stage early) same (PutsFront-none told output.bytes)

-- what was written, against the output of inputs
pub wrote_answer : (inputs : Inputs) (result : Status) (old new : Option (List ℕ)) (before after : ℕ) (output : Output)
    → Wrote (IsOutputOf inputs) result old new before after → IsOutputOf inputs output → AnswersOrFails output.status result
wrote_answer inputs result old new before after output (Whole written is status put kept) other = inl (status ∙ ap (λ (o : Output). o.status) (output_one inputs written output is other))
wrote_answer inputs result old new before after output (CutOff written is fault front rose) other = inr (inr (inr fault))
wrote_answer inputs result old new before after output (SpentRoom written is memory front kept) other = inr (inl memory)
wrote_answer inputs result old new before after output (NoRoom memory same kept) other = inr (inl memory)

pub wrote_part : (inputs : Inputs) (result : Status) (old new : Option (List ℕ)) (before after : ℕ) (output : Output)
    → Wrote (IsOutputOf inputs) result old new before after → IsOutputOf inputs output → PutsFront old new output.bytes
wrote_part inputs result old new before after output (Whole written is status put kept) other =
    PutsFront-all old new output.bytes (put ∙ ap (λ (o : Output). appended old o.bytes) (output_one inputs written output is other))
wrote_part inputs result old new before after output (CutOff written is fault front rose) other =
    subst (λ (o : Output). PutsFront old new o.bytes) (output_one inputs written output is other) front
wrote_part inputs result old new before after output (SpentRoom written is memory front kept) other =
    subst (λ (o : Output). PutsFront old new o.bytes) (output_one inputs written output is other) front
wrote_part inputs result old new before after output (NoRoom memory same kept) other =
    subst (λ told. PutsFront old told output.bytes) (sym same) (PutsFront-none old output.bytes)

pub wrote_whole : (inputs : Inputs) (result : Status) (old new : Option (List ℕ)) (before after : ℕ) (output : Output)
    → Wrote (IsOutputOf inputs) result old new before after → IsOutputOf inputs output → result ≡ output.status → new ≡ appended old output.bytes
wrote_whole inputs result old new before after output (Whole written is status put kept) other same = put ∙ ap (λ (o : Output). appended old o.bytes) (output_one inputs written output is other)
wrote_whole inputs result old new before after output (CutOff written is fault front rose) other same =
    late_whole result old new output (output_told inputs output other) (λ stage. cc (fault, stage)) same (wrote_part inputs result old new before after output (CutOff written is fault front rose) other)
wrote_whole inputs result old new before after output (SpentRoom written is memory front kept) other same =
    late_whole result old new output (output_told inputs output other) (λ stage. cc (memory, stage)) same (wrote_part inputs result old new before after output (SpentRoom written is memory front kept) other)
wrote_whole inputs result old new before after output (NoRoom memory unwritten kept) other same =
    late_whole result old new output (output_told inputs output other) (λ stage. cc (memory, stage)) same (wrote_part inputs result old new before after output (NoRoom memory unwritten kept) other)

-- nothing is written at a refusal
pub wrote_nothing : (inputs : Inputs) (result : Status) (old new : Option (List ℕ)) (before after : ℕ) → Wrote (IsOutputOf inputs) result old new before after → IsRefusal result → new ≡ old
wrote_nothing inputs result old new before after (Whole written is status put kept) refusal = go (output_told inputs written is)
  where
    go : IsTold written → new ≡ old
    go (inl stage) = absurd (subst IsBeforeOutput (ap stage_of status ∙ stage) refusal)
    go (inr told) = put ∙ ap (appended old) told.1 ∙ appended-nil old
wrote_nothing inputs result old new before after (CutOff written is fault front rose) refusal = absurd (subst IsRefusal fault refusal)
wrote_nothing inputs result old new before after (SpentRoom written is memory front kept) refusal = absurd (subst IsRefusal memory refusal)
wrote_nothing inputs result old new before after (NoRoom memory same kept) refusal = same

-- the words and the reading are done with
pub wrote_stage : (inputs : Inputs) (result : Status) (old new : Option (List ℕ)) (before after : ℕ) → Wrote (IsOutputOf inputs) result old new before after → IsAfterReading (stage_of result)
wrote_stage inputs result old new before after (Whole written is status put kept) = subst (λ s. IsAfterReading (stage_of s)) (sym status) (later (stage_of written.status) (told_stage written (output_told inputs written is)))
  where
    later : (stage : Stage) → IsOfOutput stage → IsAfterReading stage
    later ByWords of = of
    later ByReading of = of
    later ByContents of = of
    later ByOutput of = of
    later ByWriting of = tt
    later ByMemory of = of
wrote_stage inputs result old new before after (CutOff written is fault front rose) = subst (λ s. IsAfterReading (stage_of s)) (sym fault) tt
wrote_stage inputs result old new before after (SpentRoom written is memory front kept) = subst (λ s. IsAfterReading (stage_of s)) (sym memory) tt
wrote_stage inputs result old new before after (NoRoom memory same kept) = subst (λ s. IsAfterReading (stage_of s)) (sym memory) tt

-- no file is too long by then
pub wrote_not_long : (inputs : Inputs) (result : Status) (old new : Option (List ℕ)) (before after : ℕ) (file : InFile) → Wrote (IsOutputOf inputs) result old new before after → result ≡ InputTooLong file → ⊥
wrote_not_long inputs result old new before after file wrote long = subst (λ s. IsAfterReading (stage_of s)) long (wrote_stage inputs result old new before after wrote)

-- a fault of writing was counted
pub wrote_fault : (inputs : Inputs) (result : Status) (old new : Option (List ℕ)) (before after : ℕ) → Wrote (IsOutputOf inputs) result old new before after → result ≡ WriteFault → Rose before after
wrote_fault inputs result old new before after (Whole written is status put kept) fault =
    absurd (subst (λ s. IsOfOutput (stage_of s)) (sym status ∙ fault) (told_stage written (output_told inputs written is)))
wrote_fault inputs result old new before after (CutOff written is cut front rose) fault = rose
wrote_fault inputs result old new before after (SpentRoom written is memory front kept) fault = absurd (cc (memory, fault))
wrote_fault inputs result old new before after (NoRoom memory same kept) fault = absurd (cc (memory, fault))

-- bytes only grow
pub none_grows : (told : Option (List ℕ)) → Grows told told
none_grows told = ([], sym (appended-nil told))

pub wrote_grows : (Is : Output → Type 0) (result : Status) (old new : Option (List ℕ)) (before after : ℕ) → Wrote Is result old new before after → Grows old new
wrote_grows Is result old new before after (Whole written is status put kept) = (written.bytes, put)
wrote_grows Is result old new before after (CutOff written is fault front rose) = (front.front, front.put)
wrote_grows Is result old new before after (SpentRoom written is memory front kept) = (front.front, front.put)
wrote_grows Is result old new before after (NoRoom memory same kept) = ([], same ∙ sym (appended-nil old))

-- what is made first is made whole, or a refusal that writes nothing comes in its place
answer_none : {A : Type 0} (text : A → List ℕ) (made : Result A Status) (output : Output) (attempt : ℕ) → output ≡ answered text made → output.status ≡ TooLong attempt → output.bytes ≡ []
answer_none text (Ok value) output attempt is long = let e : Done ≡ TooLong attempt = sym (ap (λ (o : Output). o.status) is) ∙ long in cc
answer_none text (Err status) output attempt is long = ap (λ (o : Output). o.bytes) is

output_none : (inputs : Inputs) (output : Output) (attempt : ℕ) → are_made_first inputs ≡ true → IsOutputOf inputs output → output.status ≡ TooLong attempt → output.bytes ≡ []
output_none (inputs.Run verb dna budget limit) output attempt first is long = absurd (false≢true first)
output_none (inputs.Trace dna budget limit) output attempt first is long = absurd (false≢true first)
output_none (inputs.Plain plain) output attempt first is long = absurd (false≢true first)
output_none (inputs.Listing dna count) output attempt first is long = absurd (false≢true first)
output_none (inputs.Explain prefix len attempts limit) output attempt first is long = answer_none explained_text is.made output attempt is.tells long
output_none (inputs.Rewind dna orders limit) output attempt first is long = absurd (false≢true first)
output_none (inputs.Text verb text) output attempt first is long = answer_none letters is.made output attempt is.tells long
output_none (inputs.Bench seed size rounds) output attempt first is long = absurd (false≢true first)

wrote_none : (inputs : Inputs) (result : Status) (old new : Option (List ℕ)) (before after attempt : ℕ) → Wrote (IsOutputOf inputs) result old new before after → are_made_first inputs ≡ true
    → result ≡ TooLong attempt → new ≡ old
wrote_none inputs result old new before after attempt (Whole written is status put kept) first long =
    put ∙ ap (appended old) (output_none inputs written attempt first is (sym status ∙ long)) ∙ appended-nil old
wrote_none inputs result old new before after attempt (CutOff written is fault front rose) first long = absurd (cc (fault, long))
wrote_none inputs result old new before after attempt (SpentRoom written is memory front kept) first long = absurd (cc (memory, long))
wrote_none inputs result old new before after attempt (NoRoom memory same kept) first long = same

pub wrote_unmade : (found : Option Request) (request : Request) (asked : Asked) (inputs : Inputs) (result : Status) (old new : Option (List ℕ)) (before after : ℕ)
    → found ≡ Some request → asked ≡ sorted request → are_made_first inputs ≡ is_made_first asked → Wrote (IsOutputOf inputs) result old new before after → IsUnmade found result → new ≡ old
wrote_unmade found request asked inputs result old new before after taken is kind wrote unmade =
    let (first, (attempt, long)) = subst (λ f. IsUnmade f result) taken unmade in
    wrote_none inputs result old new before after attempt wrote (kind ∙ ap is_made_first is ∙ first) long
