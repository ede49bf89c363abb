-- Where the status of an output is decided.
use Rattle.std.proofs.Common.{◌≡◌, ◌⊎◌, inl, inr, ℕ, Bool, true, false, Result, Ok, Err, List, [], refl, sym, ap, ◌∙◌, subst}
use Rattle.std.specs.Prelude.{IfErr, if◌then◌else◌, nat_lt, length, Option, Some, None}
use Rattle.fuun_base.specs.declared.letters.Base.{Base}
use Rattle.exec_loop.specs.declared.machine.RunEnd.{RunEnd}
use Rattle.exec_loop.specs.declared.machine.RunEnd.TheVariants as end
use Rattle.patch_text.specs.declared.read.PatchError.{PatchError}
use Rattle.patch_text.specs.declared.read.PatchError.TheVariants as patch
use Rattle.patch_text.specs.Meaning.{patches}
use Rattle.patch_compile.specs.declared.compiling.CompileError.{CompileError}
use Rattle.patch_compile.specs.declared.compiling.CompileError.TheVariants as compile
use Rattle.patch_compile.specs.Compiled.{compiled}
use Rattle.assembler.specs.declared.assembling.AsmError.{AsmError}
use Rattle.assembler.specs.declared.assembling.AsmError.TheVariants as assemble
use Rattle.source_compile.specs.declared.compiling.SourceError.{SourceError}
use Rattle.source_compile.specs.declared.compiling.SourceError.TheVariants as source
use Rattle.picture_in.specs.Pixmap.{Rgb, picture_of}
use Rattle.draw_compile.specs.Drawing.{drawing}
use Rattle.explainer.specs.declared.explained.Explained.{Explained}
use Rattle.explainer.specs.declared.explained.ExplainError.{ExplainError}
use Rattle.explainer.specs.declared.explained.ExplainError.TheVariants as explain
use Rattle.explainer.specs.Lines.{explained_text}
use Rattle.fuun_top.specs.declared.inputs.Inputs.{Inputs}
use Rattle.fuun_top.specs.declared.inputs.Inputs.TheVariants as inputs
use Rattle.fuun_top.specs.declared.request.TextVerb.{TextVerb}
use Rattle.fuun_top.specs.declared.request.TextVerb.TheVariants as texts
use Rattle.fuun_top.specs.declared.status.Status.{Status}
use Rattle.fuun_top.specs.declared.status.Status.TheVariants.{Done, TooLong}
use Rattle.fuun_top.specs.Making.{IsExplanation, IsMade, assemble_refusal, compile_refusal, drawn, explain_refusal, patch_refusal, source_refusal, told, then_made}
use Rattle.fuun_top.specs.Output.{Output, Body, Text, Drawing, IsBody, IsOutputOf, answered, plain_body, run_body, spent_is_done, status_by}
use Rattle.fuun_top.specs.Stages.{ByOutput, IsOfOutput, stage_of}
use Rattle.fuun_top.specs.Texts.{letters}

-- a status is decided where output is, or it refuses what a file holds, and no byte is written
abbrev pub IsTold : Output → Type 0
IsTold output = (stage_of output.status ≡ ByOutput) ⊎ (IsOfOutput (stage_of output.status) × (output.bytes ≡ []))

body_status : (status : Status) (body : Body) (output : Output) → IsBody status body output → output.status ≡ status
body_status status (Text bytes) output is = ap (λ (o : Output). o.status) is
body_status status (Drawing profile rna) output is = ap (λ (o : Output). o.status) is.is

end_stage : (spent : Bool) (end : RunEnd) → stage_of (status_by spent end) ≡ ByOutput
end_stage spent (end.Finished attempts) = refl
end_stage true end.Budget = refl
end_stage false end.Budget = refl
end_stage spent (end.TooLong attempt) = refl

-- what is made, or is refused by a status of that kind
abbrev IsRefused : {A : Type 0} → Result A Status → Type 0
IsRefused made = IfErr made (λ status. IsOfOutput (stage_of status))

told_refused : {A E : Type 0} (status : E → Status) (result : Result A E) → ((error : E) → IsOfOutput (stage_of (status error))) → IsRefused (told status result)
told_refused status (Ok value) each = tt
told_refused status (Err error) each = each error

then_refused : {A B : Type 0} (first : Result A Status) (next : A → Result B Status) → IsRefused first → ((value : A) → IsRefused (next value)) → IsRefused (then_made first next)
then_refused (Ok value) next first each = each value
then_refused (Err status) next first each = first

patch_refused : (error : PatchError) → IsOfOutput (stage_of (patch_refusal error))
patch_refused patch.BadToml = tt
patch_refused (patch.BadPatch number) = tt
patch_refused patch.NoMemory = tt

compile_refused : (error : CompileError) → IsOfOutput (stage_of (compile_refusal error))
compile_refused (compile.Outside number) = tt
compile_refused compile.TooLong = tt
compile_refused compile.NoMemory = tt

assemble_refused : (error : AsmError) → IsOfOutput (stage_of (assemble_refusal error))
assemble_refused (assemble.BadText number) = tt
assemble_refused (assemble.Unreadable number) = tt
assemble_refused assemble.NoMemory = tt

source_refused : (error : SourceError) → IsOfOutput (stage_of (source_refusal error))
source_refused (source.BadSource place) = tt
source_refused (source.BadName place) = tt
source_refused (source.BadNumber place) = tt
source_refused (source.NoCode place) = tt
source_refused source.TooLong = tt
source_refused source.NoMemory = tt

within_refused : (over : Bool) (dna : List Base) → IsRefused (if over then Err (TooLong 0) else Ok dna)
within_refused true dna = tt
within_refused false dna = tt

drawn_refused : (limit : ℕ) (picture : Option (List Rgb)) → IsRefused (drawn limit picture)
drawn_refused limit None = tt
drawn_refused limit (Some picture) = within_refused (nat_lt limit (length (drawing picture))) (drawing picture)

-- a line for each verb
made_refused : (verb : TextVerb) (text : List ℕ) (made : Result (List Base) Status) → IsMade verb text made → IsRefused made
made_refused (texts.Patch limit) text made is =
    subst IsRefused (sym is)
    (then_refused (told patch_refusal (patches text)) _ (told_refused patch_refusal (patches text) patch_refused) (λ contents. told_refused compile_refusal (compiled contents limit) compile_refused))
made_refused texts.Assemble text made is = subst IsRefused (sym is.tells) (told_refused assemble_refusal is.answer assemble_refused)
made_refused (texts.Compile limit) text made is = subst IsRefused (sym is.tells) (told_refused source_refusal is.answer source_refused)
made_refused (texts.Picture limit) text made is = subst IsRefused (sym is) (drawn_refused limit (picture_of text))

explain_refused : (error : ExplainError) → IsOfOutput (stage_of (explain_refusal error))
explain_refused (explain.Depends attempt) = tt
explain_refused (explain.TooLong attempt) = tt
explain_refused explain.NoMemory = tt

explanation_refused : (prefix : List Base) (len attempts limit : ℕ) (made : Result Explained Status) → IsExplanation prefix len attempts limit made → IsRefused made
explanation_refused prefix len attempts limit made is = subst IsRefused (sym is.tells) (told_refused explain_refusal is.answer explain_refused)

answer_told : {A : Type 0} (text : A → List ℕ) (made : Result A Status) (output : Output) → IsRefused made → output ≡ answered text made → IsTold output
answer_told text (Ok value) output refused is = inl (ap (λ (o : Output). stage_of o.status) is)
answer_told text (Err status) output refused is = inr (subst (λ (o : Output). IsOfOutput (stage_of o.status)) (sym is) refused, ap (λ (o : Output). o.bytes) is)

pub output_told : (inputs : Inputs) (output : Output) → IsOutputOf inputs output → IsTold output
output_told (inputs.Run verb dna budget limit) output is = inl (ap stage_of (body_status _ (run_body verb is.run) output is.writes) ∙ end_stage (spent_is_done verb) is.run.end)
output_told (inputs.Trace dna budget limit) output is = inl (ap (λ (o : Output). stage_of o.status) is.tells ∙ end_stage false is.run.end)
output_told (inputs.Plain plain) output is = inl (ap stage_of (body_status Done (plain_body plain) output is))
output_told (inputs.Listing dna count) output is = inl (ap (λ (o : Output). stage_of o.status) is.is)
output_told (inputs.Explain prefix len attempts limit) output is = answer_told explained_text is.made output (explanation_refused prefix len attempts limit is.made is.is) is.tells
output_told (inputs.Rewind dna orders limit) output is = inl (ap (λ (o : Output). stage_of o.status) is.is)
output_told (inputs.Text verb text) output is = answer_told letters is.made output (made_refused verb text is.made is.is) is.tells
output_told (inputs.Bench seed size rounds) output is = inl (ap (λ (o : Output). stage_of o.status) is.tells)

-- the status of an output
pub told_stage : (output : Output) → IsTold output → IsOfOutput (stage_of output.status)
told_stage output (inl stage) = subst IsOfOutput (sym stage) tt
told_stage output (inr told) = told.0
