-- What verbs write, taken as the files of others.
use Rattle.std.specs.Prelude.{◌≡◌, ◌⊎◌, ℕ, ◌+◌, ◌≤◌, ◌==◌, if◌then◌else◌, Some, None, List, [], ◌∷◌, ◌++◌, codes, flat_map, length}
use Rattle.fuun_base.specs.Lines.{lines}
use Rattle.fuun_top.specs.Output.{Output, IsOutput}
use Rattle.fuun_top.specs.Reading.{Files, most_bytes}
use Rattle.fuun_top.specs.declared.status.Status.{Status}
use Rattle.fuun_top.specs.declared.status.Status.TheVariants.{Done, OutOfBudget, TooLong}
use Rattle.fuun_words.specs.declared.request.Request.{Request}
use Rattle.fuun_words.specs.declared.request.RunWords.{RunWords}
use Rattle.fuun_words.specs.Requests.{request}

-- words that ask for this have this output
pub record Gives (files : Files) (asked : Request) (output : Output) : Type 0 where
  pub words : List (List ℕ)
  pub ask : request words ≡ Some asked
  pub is : IsOutput files words output

-- a run was made, whatever ended it
abbrev pub WasRun : Status → Type 0
WasRun status = (status ≡ Done) ⊎ ((status ≡ OutOfBudget) ⊎ ((attempt : ℕ) × (status ≡ TooLong attempt)))

-- a file of this name has these bytes, and no more than a file may have
pub record IsKept (files : Files) (name bytes : List ℕ) : Type 0 where
  pub holds : files name ≡ Some bytes
  pub short : length bytes ≤ most_bytes

-- the same run with another budget
abbrev pub with_budget : RunWords → ℕ → RunWords
with_budget asked budget = record { dna = asked.dna; prefix = asked.prefix; budget = budget; limit = asked.limit }

-- a run of the DNA of a file alone, with the same limit
abbrev pub run_on : List ℕ → RunWords → ℕ → RunWords
run_on name asked budget = record { dna = name; prefix = None; budget = budget; limit = asked.limit }

-- how a run ended, when so many attempts were made before it
abbrev pub counted_on : ℕ → Status → Status
counted_on made (TooLong attempt) = TooLong (made + attempt)
counted_on made status = status

-- a line of a listing without its place: what stands behind the first space
abbrev pub behind_place : List ℕ → List ℕ
behind_place [] = []
behind_place (byte ∷ bytes) = if byte == 32 then bytes else behind_place bytes

-- the lines of a listing, each without its place
abbrev pub without_places : List ℕ → List ℕ
without_places bytes = flat_map (λ line. behind_place line ++ codes "\n") (lines bytes)
