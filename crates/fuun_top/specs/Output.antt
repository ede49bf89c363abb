-- What the plain machine answers to words and files: a status and bytes.
use Rattle.std.specs.Prelude.{◌≡◌, ℕ, Bool, true, false, Option, Some, None, Result, Ok, Err, List, []}
use Rattle.fuun_base.specs.declared.letters.Base.{Base}
use Rattle.rna_code.specs.declared.profile.Profile.{Profile}
use Rattle.rna_code.specs.declared.profile.Profile.TheVariants as profile
use Rattle.rna_code.specs.Commands.{act_of}
use Rattle.layers.specs.Layers.{top_of}
use Rattle.painter.specs.Picture.{Picture, Builds, start}
use Rattle.ppm_out.specs.Ppm.{ppm}
use Rattle.dna_reader.specs.RnaLines.{rna_lines}
use Rattle.listing.specs.Lists.{IsListing}
use Rattle.listing.specs.Names.{names}
use Rattle.exec_loop.specs.declared.machine.RunEnd.{RunEnd}
use Rattle.exec_loop.specs.declared.machine.RunEnd.TheVariants as end
use Rattle.exec_loop.specs.Run.{Run, IsRun}
use Rattle.fuun_top.specs.declared.inputs.Inputs.{Inputs}
use Rattle.fuun_top.specs.declared.inputs.Inputs.TheVariants as inputs
use Rattle.fuun_top.specs.declared.inputs.Plain.{Plain}
use Rattle.fuun_top.specs.declared.inputs.Plain.TheVariants as plain
use Rattle.fuun_top.specs.declared.request.RunVerb.{RunVerb}
use Rattle.fuun_top.specs.declared.request.RunVerb.TheVariants.{Rna, Image, Dna}
use Rattle.fuun_top.specs.declared.request.RnaVerb.TheVariants.{Draw, Names}
use Rattle.fuun_top.specs.declared.status.Status.{Status}
use Rattle.fuun_top.specs.declared.status.Status.TheVariants.{Done, Usage, OutOfBudget, TooLong}
use Rattle.fuun_top.specs.Reading.{Files, Reading, inputs_of}
use Rattle.fuun_top.specs.Making.{IsExplanation, IsMade}
use Rattle.fuun_top.specs.Bench.{load_dna, load_limit, summary_of}
use Rattle.workload.specs.Summary.{summary_text}
use Rattle.fuun_top.specs.Asked.{sorted}
use Rattle.fuun_top.specs.Texts.{letters}
use Rattle.fuun_words.specs.declared.request.Request.{Request}
use Rattle.fuun_words.specs.Requests.{request}
use Rattle.tracer.specs.Lines.{trace_text}
use Rattle.rewinder.specs.declared.orders.Order.{Order}
use Rattle.rewinder.specs.Texts.{Writes}
use Rattle.explainer.specs.Lines.{explained_text}

-- a status with the bytes that are written before it
pub record Output : Type 0 where
  pub status : Status
  pub bytes : List ℕ

-- a refusal: no byte is written
abbrev pub refusal : Status → Output
refusal status = record { status = status; bytes = [] }

-- what is written: these bytes, or the picture that commands draw in a profile
pub data Body : Type 0 where
  Text : List ℕ → Body
  Drawing : Profile → List (List Base) → Body

-- what each verb makes of a run
abbrev pub run_body : RunVerb → Run → Body
run_body Rna run = Text (rna_lines run.rna)
run_body (Image profile) run = Drawing profile run.rna
run_body Dna run = Text (letters run.dna)

-- whether a spent budget is the end that a verb asks for
abbrev pub spent_is_done : RunVerb → Bool
spent_is_done Rna = false
spent_is_done (Image profile) = false
spent_is_done Dna = true

-- what is made of inputs that always end in Done
abbrev pub plain_body : Plain → Body
plain_body (plain.Rna (Draw profile) commands) = Drawing profile commands
plain_body (plain.Rna (Names profile) commands) = Text (names profile commands)

-- how the end of a run is told
abbrev pub status_by : Bool → RunEnd → Status
status_by spent_is_done (end.Finished attempts) = Done
status_by false end.Budget = OutOfBudget
status_by true end.Budget = Done
status_by spent_is_done (end.TooLong attempt) = TooLong attempt

-- the side of a profile's pictures, and the most bitmaps that they may have
unfoldable pub picture_side : Profile → ℕ
picture_side profile.Plain = 600
picture_side profile.Wide = 1024

unfoldable pub most_layers : Profile → ℕ
most_layers profile.Plain = 10
most_layers profile.Wide = 16

-- the output with a status is the picture that commands draw in a profile: its top bitmap as a PPM file
pub record IsPictureOf (side most : ℕ) (profile : Profile) (rna : List (List Base)) (status : Status) (output : Output) : Type 0 where
  pub picture : Picture
  pub builds : Builds side most (act_of profile) rna (start side) picture
  pub is : output ≡ record { status = status; bytes = ppm side (top_of picture.layers) }

-- the output with a status is this body
abbrev pub IsBody : Status → Body → Output → Type 0
IsBody status (Text bytes) output = output ≡ record { status = status; bytes = bytes }
IsBody status (Drawing profile rna) output = IsPictureOf (picture_side profile) (most_layers profile) profile rna status output

-- the output that a verb makes of the run of a DNA, whatever ended it
pub record IsRunOutput (verb : RunVerb) (dna : List Base) (budget limit : ℕ) (output : Output) : Type 0 where
  pub run : Run
  pub is : IsRun dna budget limit run
  pub writes : IsBody (status_by (spent_is_done verb) run.end) (run_body verb run) output

-- the output of a run's attempts, a line each
pub record IsTraceOutput (dna : List Base) (budget limit : ℕ) (output : Output) : Type 0 where
  pub run : Run
  pub is : IsRun dna budget limit run
  pub tells : output ≡ record { status = status_by false run.end; bytes = trace_text 0 dna run.attempts }

-- the output is the listing of up to so many pairs of a DNA
pub record IsListingOutput (dna : List Base) (count : ℕ) (output : Output) : Type 0 where
  pub text : List ℕ
  pub lists : IsListing dna count text
  pub is : output ≡ record { status = Done; bytes = text }

-- the output is what is told of the run on a load, with a budget of an attempt for each of its patches
pub record IsBenchOutput (seed size rounds : ℕ) (output : Output) : Type 0 where
  pub run : Run
  pub is : IsRun (load_dna seed size rounds) rounds load_limit run
  pub tells : output ≡ record { status = Done; bytes = summary_text (summary_of run) }

-- the text of a value, or a refusal
abbrev pub answered : {A : Type 0} → (A → List ℕ) → Result A Status → Output
answered text (Ok value) = record { status = Done; bytes = text value }
answered text (Err status) = refusal status

-- the output is the text of what is made so, or why there is none
pub record IsAnswer {A : Type 0} (Is : Result A Status → Type 0) (text : A → List ℕ) (output : Output) : Type 0 where
  pub made : Result A Status
  pub is : Is made
  pub tells : output ≡ answered text made

-- the output of a run that a script goes through: what its orders write, from the start on
pub record IsRewindOutput (dna : List Base) (orders : List Order) (limit : ℕ) (output : Output) : Type 0 where
  pub last : ℕ
  pub text : List ℕ
  pub writes : Writes limit dna orders 0 last text
  pub is : output ≡ record { status = Done; bytes = text }

-- the output of inputs
abbrev pub IsOutputOf : Inputs → Output → Type 0
IsOutputOf (inputs.Run verb dna budget limit) output = IsRunOutput verb dna budget limit output
IsOutputOf (inputs.Trace dna budget limit) output = IsTraceOutput dna budget limit output
IsOutputOf (inputs.Plain plain) output = IsBody Done (plain_body plain) output
IsOutputOf (inputs.Listing dna count) output = IsListingOutput dna count output
IsOutputOf (inputs.Explain prefix len attempts limit) output = IsAnswer (IsExplanation prefix len attempts limit) explained_text output
IsOutputOf (inputs.Rewind dna orders limit) output = IsRewindOutput dna orders limit output
IsOutputOf (inputs.Text verb text) output = IsAnswer (IsMade verb text) letters output
IsOutputOf (inputs.Bench seed size rounds) output = IsBenchOutput seed size rounds output

-- the output of what was read, where that is known
abbrev pub OutputBy : Reading Inputs → Output → Type 0
OutputBy None output = ⊥
OutputBy (Some (Err status)) output = output ≡ refusal status
OutputBy (Some (Ok inputs)) output = IsOutputOf inputs output

-- the output of a request, if there is one
abbrev pub OutputOf : Files → Option Request → Output → Type 0
OutputOf files None output = output ≡ refusal Usage
OutputOf files (Some asked) output = OutputBy (inputs_of files (sorted asked)) output

-- the output of the plain machine for words and files
abbrev pub IsOutput : Files → List (List ℕ) → Output → Type 0
IsOutput files words output = OutputOf files (request words) output
