-- Runs that are cut into pieces, drawn from their RNA, and gone through by a script.
use Rattle.std.specs.Prelude.{◌≡◌, ℕ, ◌+◌, ◌≤◌, Option, None, List, [], ◌∷◌, ◌++◌, length}
use Rattle.fuun_base.specs.declared.letters.Base.{Base}
use Rattle.rna_code.specs.declared.profile.Profile.{Profile}
use Rattle.exec_loop.specs.Attempt.{Attempt}
use Rattle.tracer.specs.Lines.{head_text, trace_text}
use Rattle.rewinder.specs.declared.orders.Order.TheVariants.{Step, Show}
use Rattle.rewinder.specs.declared.orders.Stop.{Stop}
use Rattle.rewinder.specs.Script.{first_bad, orders}
use Rattle.rewinder.specs.Texts.{place_line}
use Rattle.rewinder.specs.Versions.{most_attempts}
use Rattle.fuun_top.specs.Chaining.{Gives, IsKept, WasRun, counted_on, run_on, with_budget}
use Rattle.fuun_top.specs.Output.{Output}
use Rattle.fuun_top.specs.Reading.{Files}
use Rattle.fuun_top.specs.declared.status.Status.TheVariants.{Done, OutOfBudget}
use Rattle.fuun_words.specs.declared.request.Request.TheVariants as words
use Rattle.fuun_words.specs.declared.request.RunWords.{RunWords}

-- a run spent its budget, and the DNA that it left is kept in a file
pub record IsCutAt (files later : Files) (asked : RunWords) (budget : ℕ) (name : List ℕ) : Type 0 where
  pub rna : Output
  pub ran : Gives files (words.Rna (with_budget asked budget)) rna
  pub spent : rna.status ≡ OutOfBudget
  pub dna : Output
  pub left : Gives files (words.Dna (with_budget asked budget)) dna
  pub kept : IsKept later name dna.bytes

-- the RNA of a run goes on with that of a run on the DNA that was kept
abbrev pub RnaGoesOn : Type 0
RnaGoesOn =
    (files later : Files) (asked : RunWords) (a b : ℕ) (name : List ℕ) (first second whole : Output)
    → IsCutAt files later asked a name
    → Gives files (words.Rna (with_budget asked a)) first
    → Gives later (words.Rna (run_on name asked b)) second
    → Gives files (words.Rna (with_budget asked (a + b))) whole
    → (whole.status ≡ counted_on a second.status) × (whole.bytes ≡ first.bytes ++ second.bytes)

-- its last DNA is that of the run on the DNA that was kept
abbrev pub DnaGoesOn : Type 0
DnaGoesOn =
    (files later : Files) (asked : RunWords) (a b : ℕ) (name : List ℕ) (second whole : Output)
    → IsCutAt files later asked a name
    → Gives later (words.Dna (run_on name asked b)) second
    → Gives files (words.Dna (with_budget asked (a + b))) whole
    → (whole.status ≡ counted_on a second.status) × (whole.bytes ≡ second.bytes)

-- lines of attempts, which may be counted from another number
pub record IsCountedOn (made : ℕ) (first second whole : List ℕ) : Type 0 where
  pub dna : List Base
  pub attempts : List Attempt
  pub alone : second ≡ trace_text 0 dna attempts
  pub behind : whole ≡ first ++ trace_text made dna attempts

-- its attempts go on with those of the run on the DNA that was kept, with their numbers counted on
abbrev pub TraceGoesOn : Type 0
TraceGoesOn =
    (files later : Files) (asked : RunWords) (a b : ℕ) (name : List ℕ) (first second whole : Output)
    → IsCutAt files later asked a name
    → Gives files (words.Trace (with_budget asked a)) first
    → Gives later (words.Trace (run_on name asked b)) second
    → Gives files (words.Trace (with_budget asked (a + b))) whole
    → (whole.status ≡ counted_on a second.status) × IsCountedOn a first.bytes second.bytes whole.bytes

-- what the RNA of a run draws from its file is the picture of the run
abbrev pub DrawnRnaIsImage : Type 0
DrawnRnaIsImage =
    (files later : Files) (asked : RunWords) (profile : Profile) (name : List ℕ) (rna image drawn : Output)
    → Gives files (words.Rna asked) rna → WasRun rna.status
    → Gives files (words.Image asked profile) image
    → IsKept later name rna.bytes
    → Gives later (words.Draw name profile) drawn
    → (drawn.status ≡ Done) × (drawn.bytes ≡ image.bytes)

-- what the RNA of both parts of a run draws from one file is the picture of the whole run
abbrev pub DrawnPartsAreImage : Type 0
DrawnPartsAreImage =
    (files later last : Files) (asked : RunWords) (profile : Profile) (a b : ℕ) (name joined : List ℕ) (first second image drawn : Output)
    → IsCutAt files later asked a name
    → Gives files (words.Rna (with_budget asked a)) first
    → Gives later (words.Rna (run_on name asked b)) second
    → Gives files (words.Image (with_budget asked (a + b)) profile) image
    → IsKept last joined (first.bytes ++ second.bytes)
    → Gives last (words.Draw joined profile) drawn
    → (drawn.status ≡ Done) × (drawn.bytes ≡ image.bytes)

-- the text of a script says: so many attempts, and then the DNA up to a place
pub record IsScriptTo (files : Files) (name : List ℕ) (count hi : ℕ) : Type 0 where
  pub text : List ℕ
  pub kept : IsKept files name text
  pub good : first_bad text ≡ None
  pub says : orders text ≡ Step count ∷ Show 0 hi ∷ []

-- a script that steps and shows writes a line for the place, and then the DNA that the run of so many attempts leaves
pub record IsShown (dna rewound : List ℕ) (place len : ℕ) : Type 0 where
  pub stop : Option Stop
  pub shows : rewound ≡ place_line place len stop ++ dna
  pub measured : length dna ≡ len + 1

-- the lines of so many attempts, and then the line of the attempt of that number, which begins with this length
pub record IsTracedAt (traced : List ℕ) (place len : ℕ) : Type 0 where
  pub dna : List Base
  pub attempts : List Attempt
  pub number : length attempts ≡ place
  pub behind : List ℕ
  pub is : traced ≡ trace_text 0 dna attempts ++ (head_text place len ++ behind)

-- the place to which a script steps is that of the run and of its trace
abbrev pub RewoundAgrees : Type 0
RewoundAgrees =
    (files : Files) (asked : RunWords) (script : List ℕ) (hi : ℕ) (dna rewound traced : Output)
    → asked.budget ≤ most_attempts
    → IsScriptTo files script asked.budget hi
    → Gives files (words.Dna asked) dna → WasRun dna.status → length dna.bytes ≤ hi + 1
    → Gives files (words.Rewind (record { dna = asked.dna; prefix = asked.prefix; script = script; limit = asked.limit })) rewound
    → Gives files (words.Trace (with_budget asked (asked.budget + 1))) traced
    → (rewound.status ≡ Done)
    × ((place : ℕ) × (len : ℕ) × IsShown dna.bytes rewound.bytes place len × IsTracedAt traced.bytes place len)
