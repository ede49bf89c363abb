-- What each function that reads promises.
use Rattle.std.specs.Prelude.{◌≡◌, ◌≢◌, ◌⊎◌, ℕ, ◌+◌, ◌^◌, ◌<◌, ◌≤◌, Bool, true, false, Result, Err, List, IfOk, IfErr, IfSome, length}
use Rattle.fuun_io.specs.Counts.{raised, Rose}
use Rattle.fuun_top.specs.declared.inputs.Inputs.{Inputs}
use Rattle.fuun_top.specs.declared.inputs.Inputs.TheVariants as inputs
use Rattle.fuun_top.specs.declared.status.InFile.{InFile}
use Rattle.fuun_top.specs.declared.status.Status.{Status}
use Rattle.fuun_top.specs.declared.status.Status.TheVariants.{InputTooLong, ReadFault, NoMemory}
use Rattle.fuun_top.specs.Answer.{IsLongOf, told_bytes}
use Rattle.fuun_top.specs.Reading.{Called, Files, Reading, most_bytes}
use Rattle.fuun_top.specs.Stages.{stage_of, IsOfInputs}
use Rattle.fuun_top.specs.declared.request.Asked.{Asked}
use Rattle.fuun_top.specs.declared.request.Asked.TheVariants.{Run, Trace, Rna, Listing, Text, Explain, Rewind, Bench}
use Rattle.fuun_top.specs.declared.request.TextVerb.{TextVerb}
use Rattle.fuun_top.specs.declared.request.TextVerb.TheVariants.{Patch, Assemble, Compile, Picture}
use Rattle.fuun_words.specs.Requests.{IsRunInRange, IsExplanationInRange}

-- contents were judged so, or memory was wanted
pub record Judges {A : Type 0} (judged result : Result A Status) : Type 0 where
  pub agrees : (result ≡ judged) ⊎ (result ≡ Err NoMemory)
  pub refused : IfErr result (λ status. IsOfInputs (stage_of status))
  pub not_fault : result ≢ Err ReadFault
  pub not_length : (file : InFile) → result ≢ Err (InputTooLong file)

-- these files were read in order, with what is known of their reading, and with the folder's counts before and after
pub record Reads {A : Type 0} (files : Files) (called : List Called) (known : Reading A) (result : Result A Status) (given_old given_new faults_old faults_new : ℕ) : Type 0 where
  pub agrees : IfSome known (λ read. (result ≡ read) ⊎ (result ≡ Err NoMemory) ⊎ (result ≡ Err ReadFault))
  pub refused : IfErr result (λ status. IsOfInputs (stage_of status))
  pub given : IfOk result (λ value. raised given_old (told_bytes files called) ≤ given_new)
  pub too_long : (file : InFile) → result ≡ Err (InputTooLong file) → IsLongOf files called file given_old given_new
  pub rises : given_old ≤ given_new
  pub fault : result ≡ Err ReadFault → Rose faults_old faults_new
  pub no_fault : result ≢ Err ReadFault → faults_new ≡ faults_old

-- a limit of DNA that is made of a text is at most 2^40 bases
abbrev pub IsTextInRange : TextVerb → Type 0
IsTextInRange (Patch limit) = limit ≤ 2 ^ 40
IsTextInRange Assemble = Unit {0}
IsTextInRange (Compile limit) = limit ≤ 2 ^ 40
IsTextInRange (Picture limit) = limit ≤ 2 ^ 40

-- the numbers of a load are ones that it is drawn from
abbrev pub IsLoadInRange : ℕ → ℕ → ℕ → Type 0
IsLoadInRange seed size rounds = (seed < 2 ^ 31) × (size ≤ 2 ^ 24) × (rounds ≤ 2 ^ 16)

-- the budget and the limit of a run are ones that a machine takes
abbrev pub IsInRange : Asked → Type 0
IsInRange (Run verb words) = IsRunInRange words
IsInRange (Trace words) = IsRunInRange words
IsInRange (Rna verb name) = Unit {0}
IsInRange (Listing name count) = Unit {0}
IsInRange (Text verb name) = IsTextInRange verb
IsInRange (Explain words) = IsExplanationInRange words
IsInRange (Rewind words) = (1 ≤ words.limit) × (words.limit ≤ 2 ^ 40)
IsInRange (Bench seed size rounds) = IsLoadInRange seed size rounds

-- so are those of what was read, and the DNA is within the limit; what is listed or a text is no longer than a file may be
abbrev pub AreInRange : Inputs → Type 0
AreInRange (inputs.Run verb dna budget limit) = (budget ≤ 2 ^ 40) × (1 ≤ limit) × (limit ≤ 2 ^ 40) × (length dna ≤ limit)
AreInRange (inputs.Trace dna budget limit) = (budget ≤ 2 ^ 40) × (1 ≤ limit) × (limit ≤ 2 ^ 40) × (length dna ≤ limit)
AreInRange (inputs.Plain plain) = Unit {0}
AreInRange (inputs.Listing dna count) = length dna ≤ most_bytes
AreInRange (inputs.Explain prefix len attempts limit) = (attempts ≤ 2 ^ 40) × (1 ≤ limit) × (limit ≤ 2 ^ 40) × (length prefix + len ≤ limit)
AreInRange (inputs.Rewind dna orders limit) = (1 ≤ limit) × (limit ≤ 2 ^ 40) × (length dna ≤ limit)
AreInRange (inputs.Text verb text) = IsTextInRange verb × (length text ≤ most_bytes)
AreInRange (inputs.Bench seed size rounds) = IsLoadInRange seed size rounds

-- inputs whose output is made whole before any of it is written
abbrev pub are_made_first : Inputs → Bool
are_made_first (inputs.Run verb dna budget limit) = false
are_made_first (inputs.Trace dna budget limit) = false
are_made_first (inputs.Plain plain) = false
are_made_first (inputs.Listing dna count) = false
are_made_first (inputs.Explain prefix len attempts limit) = true
are_made_first (inputs.Rewind dna orders limit) = false
are_made_first (inputs.Text verb text) = true
are_made_first (inputs.Bench seed size rounds) = false
