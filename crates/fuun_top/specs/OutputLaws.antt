-- What holds of the output.
use Rattle.std.specs.Prelude.{◌≡◌, ℕ, Option, Some, None, List}
use Rattle.std.specs.List.{AllByRecursion}
use Rattle.fuun_top.specs.Output.{Output, IsOutput}
use Rattle.fuun_top.specs.Reading.{Files, files_of}
use Rattle.fuun_top.specs.Asked.{sorted}
use Rattle.fuun_words.specs.declared.request.Request.{Request}
use Rattle.fuun_words.specs.Requests.{request}

-- the contents of the file of a name are told
abbrev pub IsTold : Files → List ℕ → Type 0
IsTold files name = (contents : List ℕ) × (files name ≡ Some contents)

-- the contents of each file that is asked for are told
abbrev pub AreTold : Files → Option Request → Type 0
AreTold files None = Unit {0}
AreTold files (Some asked) = AllByRecursion (λ file. IsTold files file.1) (files_of (sorted asked))

-- where the files are told, words have an output
abbrev pub HasOutput : Type 0
HasOutput = (files : Files) (words : List (List ℕ)) → AreTold files (request words) → (output : Output) × IsOutput files words output

-- and only one
abbrev pub HasOneOutput : Type 0
HasOneOutput = (files : Files) (words : List (List ℕ)) (a b : Output) → IsOutput files words a → IsOutput files words b → a ≡ b
