-- What a source compiles to.
use Rattle.std.specs.Prelude.{◌≡◌, ℕ, Some, slice_get, Result, Ok, Err, List}
use Rattle.fuun_base.specs.declared.letters.Base.{Base}
use Rattle.source_tokens.specs.declared.places.Place.{Place}
use Rattle.source_tokens.specs.Places.{place_of}
use Rattle.source_code.specs.declared.settling.CodeError.TheVariants as code
use Rattle.source_code.specs.Answers.{IsAnswer, IsLastBig}
use Rattle.source_text.specs.declared.judging.Refusal.{Refusal}
use Rattle.source_text.specs.declared.judging.Refusal.TheVariants as refusal
use Rattle.source_text.specs.Judging.{Placed}
use Rattle.source_text.specs.Sources.{lines_of}
use Rattle.source_text.specs.Taking.{lines_in}
use Rattle.source_compile.specs.declared.compiling.SourceError.{SourceError}
use Rattle.source_compile.specs.declared.compiling.SourceError.TheVariants.{BadSource, BadName, BadNumber, NoCode, TooLong, NoMemory}

-- why a statement is refused, with the line and the column
abbrev pub refused : List ℕ → Refusal → SourceError
refused source (refusal.BadForm at) = BadSource (place_of source at)
refused source (refusal.BadName at) = BadName (place_of source at)
refused source (refusal.BadNumber at) = BadNumber (place_of source at)
refused source refusal.TooLong = TooLong
refused source (refusal.NoCode at) = NoCode (place_of source at)

-- the arrow at this place is that of the last line with a sum of 2^63 or more
pub record IsBigAt (source : List ℕ) (all : List Placed) (place : Place) : Type 0 where
  pub index : ℕ
  pub line : Placed
  pub there : slice_get all index ≡ Some line
  pub big : IsLastBig (lines_in all) index
  pub stands : place ≡ place_of source line.at

-- the lines of a source are settled to a DNA of at most so many bases, or refused
abbrev pub IsSettled : ℕ → List ℕ → List Placed → Result (List Base) SourceError → Type 0
IsSettled limit source all (Ok dna) = IsAnswer (lines_in all) limit (Ok dna)
IsSettled limit source all (Err (BadSource place)) = ⊥
IsSettled limit source all (Err (BadName place)) = ⊥
IsSettled limit source all (Err (BadNumber place)) = IsBigAt source all place
IsSettled limit source all (Err (NoCode place)) = ⊥
IsSettled limit source all (Err TooLong) = IsAnswer (lines_in all) limit (Err code.TooLong)
IsSettled limit source all (Err NoMemory) = ⊥

abbrev pub IsCompiledBy : ℕ → List ℕ → Result (List Placed) Refusal → Result (List Base) SourceError → Type 0
IsCompiledBy limit source (Ok all) answer = IsSettled limit source all answer
IsCompiledBy limit source (Err why) answer = answer ≡ Err (refused source why)

-- a source compiles to a DNA of at most so many bases, or is refused
abbrev pub IsCompiled : ℕ → List ℕ → Result (List Base) SourceError → Type 0
IsCompiled limit source answer = IsCompiledBy limit source (lines_of limit source) answer
