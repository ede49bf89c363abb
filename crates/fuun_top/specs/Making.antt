-- What DNA is made of the text of a file.
use Rattle.std.specs.Prelude.{◌≡◌, ℕ, if◌then◌else◌, nat_lt, length, Option, Some, None, Result, Ok, Err, List}
use Rattle.fuun_base.specs.declared.letters.Base.{Base}
use Rattle.patch_text.specs.declared.read.PatchError.{PatchError}
use Rattle.patch_text.specs.declared.read.PatchError.TheVariants as patch
use Rattle.patch_text.specs.Meaning.{patches}
use Rattle.patch_compile.specs.declared.compiling.CompileError.{CompileError}
use Rattle.patch_compile.specs.declared.compiling.CompileError.TheVariants as compile
use Rattle.patch_compile.specs.Compiled.{compiled}
use Rattle.assembler.specs.declared.assembling.AsmError.{AsmError}
use Rattle.assembler.specs.declared.assembling.AsmError.TheVariants as assemble
use Rattle.assembler.specs.Answers.{IsAssembled}
use Rattle.source_compile.specs.declared.compiling.SourceError.{SourceError}
use Rattle.source_compile.specs.declared.compiling.SourceError.TheVariants as source
use Rattle.source_compile.specs.Compiled.{IsCompiled}
use Rattle.picture_in.specs.Pixmap.{Rgb, picture_of}
use Rattle.draw_compile.specs.Drawing.{drawing}
use Rattle.explainer.specs.declared.explained.Explained.{Explained}
use Rattle.explainer.specs.declared.explained.ExplainError.{ExplainError}
use Rattle.explainer.specs.declared.explained.ExplainError.TheVariants as explain
use Rattle.explainer.specs.Answers.{IsExplained}
use Rattle.fuun_top.specs.declared.request.TextVerb.{TextVerb}
use Rattle.fuun_top.specs.declared.request.TextVerb.TheVariants.{Patch, Assemble, Compile, Picture}
use Rattle.fuun_top.specs.declared.status.Status.{Status}
use Rattle.fuun_top.specs.declared.status.Status.TheVariants.{TooLong, BadToml, BadPatch, Outside, BadText, Unreadable, Depends, BadPpm, BadSource, BadName, BadNumber, NoCode, NoMemory}

-- a value, or the status that tells an error
abbrev pub told : {A E : Type 0} → (E → Status) → Result A E → Result A Status
told status (Ok value) = Ok value
told status (Err error) = Err (status error)

-- one value, and then another that may depend on it
abbrev pub then_made : {A B : Type 0} → Result A Status → (A → Result B Status) → Result B Status
then_made (Ok value) next = next value
then_made (Err status) next = Err status

-- why a text is no patch file
abbrev pub patch_refusal : PatchError → Status
patch_refusal patch.BadToml = BadToml
patch_refusal (patch.BadPatch number) = BadPatch number
patch_refusal patch.NoMemory = NoMemory

-- why a patch file has no prefix
abbrev pub compile_refusal : CompileError → Status
compile_refusal (compile.Outside number) = Outside number
compile_refusal compile.TooLong = TooLong 0
compile_refusal compile.NoMemory = NoMemory

-- the prefix that the text of a patch file compiles to, of at most so many bases
abbrev pub patch_prefix : ℕ → List ℕ → Result (List Base) Status
patch_prefix limit text = then_made (told patch_refusal (patches text)) (λ contents. told compile_refusal (compiled contents limit))

-- why a text is not assembled
abbrev pub assemble_refusal : AsmError → Status
assemble_refusal (assemble.BadText number) = BadText number
assemble_refusal (assemble.Unreadable number) = Unreadable number
assemble_refusal assemble.NoMemory = NoMemory

-- a text is assembled, or refused
pub record IsAssembledText (text : List ℕ) (made : Result (List Base) Status) : Type 0 where
  pub answer : Result (List Base) AsmError
  pub is : IsAssembled text answer
  pub tells : made ≡ told assemble_refusal answer

-- why a source is not compiled
abbrev pub source_refusal : SourceError → Status
source_refusal (source.BadSource place) = BadSource place.line place.column
source_refusal (source.BadName place) = BadName place.line place.column
source_refusal (source.BadNumber place) = BadNumber place.line place.column
source_refusal (source.NoCode place) = NoCode place.line place.column
source_refusal source.TooLong = TooLong 0
source_refusal source.NoMemory = NoMemory

-- a source is compiled to a DNA of at most so many bases, or refused
pub record IsCompiledText (limit : ℕ) (text : List ℕ) (made : Result (List Base) Status) : Type 0 where
  pub answer : Result (List Base) SourceError
  pub is : IsCompiled limit text answer
  pub tells : made ≡ told source_refusal answer

-- a DNA of at most so many bases that draws a picture
abbrev pub drawn_within : ℕ → List Base → Result (List Base) Status
drawn_within limit dna = if nat_lt limit (length dna) then Err (TooLong 0) else Ok dna

-- the DNA that draws the picture with which a file begins
abbrev pub drawn : ℕ → Option (List Rgb) → Result (List Base) Status
drawn limit None = Err BadPpm
drawn limit (Some picture) = drawn_within limit (drawing picture)

-- why it is not told what a prefix does
abbrev pub explain_refusal : ExplainError → Status
explain_refusal (explain.Depends attempt) = Depends attempt
explain_refusal (explain.TooLong attempt) = TooLong attempt
explain_refusal explain.NoMemory = NoMemory

-- what a prefix does to every DNA of a length is told, or refused
pub record IsExplanation (prefix : List Base) (len attempts limit : ℕ) (made : Result Explained Status) : Type 0 where
  pub answer : Result Explained ExplainError
  pub is : IsExplained prefix len attempts limit answer
  pub tells : made ≡ told explain_refusal answer

-- the DNA that a verb makes of a text, or the status that refuses the text
abbrev pub IsMade : TextVerb → List ℕ → Result (List Base) Status → Type 0
IsMade (Patch limit) text made = made ≡ patch_prefix limit text
IsMade Assemble text made = IsAssembledText text made
IsMade (Compile limit) text made = IsCompiledText limit text made
IsMade (Picture limit) text made = made ≡ drawn limit (picture_of text)
