-- What a call may answer beside the output, and what it asks of its folder.
use Rattle.std.specs.Prelude.{◌≡◌, ◌⊎◌, ℕ, ◌+◌, ◌<◌, ◌≤◌, Bool, true, false, Option, Some, None, List, [], ◌∷◌, IfSome, IsTrue, length}
use Rattle.std.specs.List.{AllByRecursion, sum_by}
use Rattle.std.specs.Option.{option_map_or}
use Rattle.fuun_io.specs.Counts.{raised}
use Rattle.fuun_io.specs.Written.{appended}
use Rattle.fuun_top.specs.declared.status.Status.{Status}
use Rattle.fuun_top.specs.declared.status.Status.TheVariants.{TooLong, ReadFault, WriteFault, NoMemory}
use Rattle.fuun_top.specs.Reading.{Called, Files, files_of, most_bytes}
use Rattle.fuun_top.specs.Asked.{sorted}
use Rattle.fuun_top.specs.declared.request.Asked.{Asked}
use Rattle.fuun_top.specs.declared.request.Asked.TheVariants.{Run, Trace, Rna, Listing, Text, Explain, Rewind, Bench}
use Rattle.fuun_top.specs.declared.status.InFile.{InFile}
use Rattle.fuun_words.specs.declared.request.Request.{Request}

-- the folder allows the name of each of these files
abbrev pub AreAllowed : (List ℕ → Bool) → List Called → Type 0
AreAllowed allows called = AllByRecursion (λ file. IsTrue (allows file.1)) called

-- the folder allows each name in the request
abbrev pub MayAsk : (List ℕ → Bool) → Option Request → Type 0
MayAsk allows None = Unit {0}
MayAsk allows (Some asked) = AreAllowed allows (files_of (sorted asked))

-- the answer is this status, or memory is wanted, or a read or a write failed
abbrev pub AnswersOrFails : Status → Status → Type 0
AnswersOrFails status result = (result ≡ status) ⊎ (result ≡ NoMemory) ⊎ (result ≡ ReadFault) ⊎ (result ≡ WriteFault)

-- bytes were appended, maybe none
abbrev pub Grows : Option (List ℕ) → Option (List ℕ) → Type 0
Grows old new = (more : List ℕ) × (new ≡ appended old more)

-- how many bytes a file has, where its contents are told
abbrev pub told_length : Files → Called → ℕ
told_length files file = option_map_or length (files file.1) 0

-- how many bytes files have together, as far as their contents are told
abbrev pub told_bytes : Files → List Called → ℕ
told_bytes files called = sum_by (told_length files) called

-- as many bytes were given as the files that are asked for have, as far as their contents are told
abbrev pub AreGiven : Files → ℕ → ℕ → Option Request → Type 0
AreGiven files old new None = Unit {0}
AreGiven files old new (Some asked) = raised old (told_bytes files (files_of (sorted asked))) ≤ new

-- a file is the one that is too long: it has more bytes than a file may have, where that is told, and so many were given
pub record IsLong (files : Files) (called : Called) (file : InFile) (old new : ℕ) : Type 0 where
  pub named : called.0 ≡ file
  pub longer : IfSome (files called.1) (λ bytes. most_bytes < length bytes)
  pub given : raised old (most_bytes + 1) ≤ new

-- of files that are read in order it is the first; or it is one of the others, and before it as many bytes were given as the
-- first has, where that is told
abbrev pub IsLongOf : Files → List Called → InFile → ℕ → ℕ → Type 0
IsLongOf files [] file old new = ⊥
IsLongOf files (first ∷ more) file old new =
    IsLong files first file old new
    ⊎ ((mid : ℕ) × (raised old (told_length files first) ≤ mid) × IsLongOf files more file mid new)

-- it is one of those that are asked for
abbrev pub IsLongAsked : Files → Option Request → InFile → ℕ → ℕ → Type 0
IsLongAsked files None file old new = ⊥
IsLongAsked files (Some asked) file old new = IsLongOf files (files_of (sorted asked)) file old new

-- what is asked for is made whole before any of it is written: DNA of a text, or what a prefix does
abbrev pub is_made_first : Asked → Bool
is_made_first (Run verb words) = false
is_made_first (Trace words) = false
is_made_first (Rna verb name) = false
is_made_first (Listing name count) = false
is_made_first (Text verb name) = true
is_made_first (Explain words) = true
is_made_first (Rewind words) = false
is_made_first (Bench seed size rounds) = false

-- what would have been made was too long
abbrev pub IsUnmade : Option Request → Status → Type 0
IsUnmade None status = ⊥
IsUnmade (Some asked) status = (is_made_first (sorted asked) ≡ true) × ((attempt : ℕ) × (status ≡ TooLong attempt))
