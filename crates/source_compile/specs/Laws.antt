-- What holds of sources.
use Rattle.std.specs.Prelude.{◌≡◌, ℕ, ◌≤◌, List, Result, Ok, length}
use Rattle.fuun_base.specs.declared.letters.Base.{Base}
use Rattle.assembler.specs.Answers.{IsAssembled}
use Rattle.source_compile.specs.declared.compiling.SourceError.{SourceError}
use Rattle.source_compile.specs.Compiled.{IsCompiled}

-- a source has an answer
abbrev pub HasAnswer : Type 0
HasAnswer = (limit : ℕ) (source : List ℕ) → (answer : Result (List Base) SourceError) × IsCompiled limit source answer

-- and only one
abbrev pub AnswerIsOne : Type 0
AnswerIsOne = (limit : ℕ) (source : List ℕ) (a b : Result (List Base) SourceError) → IsCompiled limit source a → IsCompiled limit source b → a ≡ b

-- each text that is assembled is a source, with the same DNA
abbrev pub AssembledIsSource : Type 0
AssembledIsSource = (text : List ℕ) (dna : List Base) (limit : ℕ) → IsAssembled text (Ok dna) → length dna ≤ limit → IsCompiled limit text (Ok dna)
