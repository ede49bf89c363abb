-- What statements come to, as it is kept.
use Rattle.std.specs.Prelude.{◌≡◌, ℕ, if◌then◌else◌, Option, Some, None, Result, Ok, Err, List, [], ◌∷◌, map}
use Rattle.source_items.specs.declared.lines.Line.{Line}
use Rattle.source_items.specs.Held.{AreHeld}
use Rattle.source_tokens.specs.declared.words.Token.{Token}
use Rattle.source_tokens.specs.declared.words.Word.{Word}
use Rattle.source_text.specs.declared.faults.Faults.{Faults}
use Rattle.source_text.specs.declared.judging.Refusal.{Refusal}
use Rattle.source_text.specs.declared.judging.Refusal.TheVariants.{BadName, BadNumber}
use Rattle.source_text.specs.declared.signs.Sign.TheVariants as sign
use Rattle.source_text.specs.declared.sources.Source.{Source}
use Rattle.source_text.specs.declared.taking.Reading.{Reading}
use Rattle.source_text.specs.Judging.{Placed, State}
use Rattle.source_text.specs.Keeping.{AreKnown}
use Rattle.source_text.specs.Reading.{is_sign}

abbrev pub lines_in : List Placed → List Line
lines_in all = map (λ placed. placed.line) all

abbrev pub places_in : List Placed → List ℕ
places_in all = map (λ placed. placed.at) all

-- lines of these kinds, and where they stand, are kept
pub record AreKept (limit : ℕ) (lines : List Line) (places : List ℕ) (all : List Placed) : Type 0 where
  pub held : AreHeld limit (lines_in all) lines
  pub stand : places ≡ places_in all

-- what the statements so far come to is kept
pub record IsReading (reading : Reading) (state : State) : Type 0 where
  pub known : AreKnown reading.limit reading.known.items state.names
  pub lines : AreKept reading.limit reading.lines reading.places state.lines

-- so much is kept as is defined, or the refusal is the one that is defined
abbrev pub IsTaken : Reading → Result (Unit {0}) Refusal → Result State Refusal → Type 0
IsTaken reading (Ok done) defined = (state : State) × (defined ≡ Ok state) × IsReading reading state
IsTaken reading (Err refusal) defined = defined ≡ Err refusal

-- a source's lines are kept, or the refusal is the one that is defined
abbrev pub IsRead : ℕ → Result Source Refusal → Result (List Placed) Refusal → Type 0
IsRead limit (Ok source) defined = (all : List Placed) × (defined ≡ Ok all) × AreKept limit source.lines source.places all
IsRead limit (Err refusal) defined = defined ≡ Err refusal

-- why a statement is refused where a name or a number does not serve: names come first
abbrev pub refusal_by : Option ℕ → Option ℕ → Option Refusal
refusal_by (Some at) number = Some (BadName at)
refusal_by None (Some at) = Some (BadNumber at)
refusal_by None None = None

abbrev pub refusal_of : Faults → Option Refusal
refusal_of faults = refusal_by faults.name faults.number

-- the first word of a label, which is two tokens of which the second is `:`
abbrev pub mark_of : List Token → Option Word
mark_of (first ∷ second ∷ []) = if is_sign sign.Colon second.word then Some first.word else None
mark_of tokens = None
