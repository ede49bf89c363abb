-- What holds of settled lines.
use Rattle.std.specs.Prelude.{◌≡◌, ℕ, ◌+◌, ◌^◌, ◌≤◌, List, [], ◌∷◌, Result, drop, length, take}
use Rattle.fuun_base.specs.declared.letters.Base.{Base}
use Rattle.dna_items.specs.declared.items.TplItem.{TplItem}
use Rattle.dna_reader.specs.Codes.{IsReadable}
use Rattle.dna_reader.specs.Pairs.{PairStands}
use Rattle.source_items.specs.declared.lines.Factor.TheVariants.{Rest, Own, Next}
use Rattle.source_items.specs.declared.lines.Line.{Line}
use Rattle.source_items.specs.declared.lines.Line.TheVariants.{Pair}
use Rattle.source_items.specs.declared.lines.SourceItem.{SourceItem}
use Rattle.source_items.specs.Held.{AreHeld}
use Rattle.source_items.specs.Lines.{line_code, line_len, pattern_of}
use Rattle.source_items.specs.Values.{factor_value, total}
use Rattle.source_code.specs.declared.settling.CodeError.{CodeError}
use Rattle.source_code.specs.Answers.{IsAnswer}
use Rattle.source_code.specs.Lengths.{AreLengths, dna}

-- lines have lengths
abbrev pub HasLengths : Type 0
HasLengths = (lines : List Line) → (lengths : List ℕ) × AreLengths lines lengths

-- and only one list of them
abbrev pub LengthsAreOne : Type 0
LengthsAreOne = (lines : List Line) (a b : List ℕ) → AreLengths lines a → AreLengths lines b → a ≡ b

-- lines have an answer
abbrev pub HasAnswer : Type 0
HasAnswer = (lines : List Line) (limit : ℕ) → (answer : Result (List Base) CodeError) × IsAnswer lines limit answer

-- and only one
abbrev pub AnswerIsOne : Type 0
AnswerIsOne = (lines : List Line) (limit : ℕ) (a b : Result (List Base) CodeError) → IsAnswer lines limit a → IsAnswer lines limit b → a ≡ b

-- it is the same for lines as they are kept
abbrev pub KeptAnswersAlike : Type 0
KeptAnswersAlike =
    (limit : ℕ) (lines kept : List Line) (answer : Result (List Base) CodeError)
    → limit ≤ 2 ^ 40 → AreHeld limit lines kept → IsAnswer kept limit answer → IsAnswer lines limit answer

-- the code of a line has its length
abbrev pub CodeHasLength : Type 0
CodeHasLength = (own : ℕ) (behind : List ℕ) (line : Line) → length (line_code own behind line) ≡ line_len own behind line

-- and so have the codes of lines
abbrev pub CodesHaveLengths : Type 0
CodesHaveLengths = (lines : List Line) (lengths : List ℕ) → AreLengths lines lengths → length (dna lines lengths) ≡ total lengths

-- behind the codes of some lines stand those of the others
abbrev pub OthersAreBehind : Type 0
OthersAreBehind =
    (lines : List Line) (lengths : List ℕ) (count : ℕ)
    → AreLengths lines lengths → drop (total (take count lengths)) (dna lines lengths) ≡ dna (drop count lines) (drop count lengths)

-- what the names of a line with others behind it stand for: the bases behind it up to the end, the length of its own code, and
-- how far it is from its end to the code of the line behind the next ones
pub record NamesStandFor (line : Line) (later : List Line) (own : ℕ) (behind : List ℕ) : Type 0 where
  pub rest : factor_value own behind Rest ≡ length (dna later behind)
  pub self : factor_value own behind Own ≡ length (line_code own behind line)
  pub next : (count : ℕ) → drop (factor_value own behind (Next count)) (dna later behind) ≡ dna (drop count later) (drop count behind)

abbrev pub NamesAreDistances : Type 0
NamesAreDistances =
    (line : Line) (later : List Line) (own : ℕ) (behind : List ℕ)
    → AreLengths (line ∷ later) (own ∷ behind) → NamesStandFor line later own behind

-- a pair is read where its code begins, with its sums' values, and the next line's code is left
abbrev pub PairIsRead : Type 0
PairIsRead =
    (pattern : List SourceItem) (template : List TplItem) (later : List Line) (own : ℕ) (behind : List ℕ)
    → IsReadable (pattern_of own behind pattern)
    → PairStands (dna (Pair pattern template ∷ later) (own ∷ behind)) (pattern_of own behind pattern) template [] (dna later behind)

-- so it is at its place in the DNA: the pair is read from there on, and what is left begins where the next line's code does
abbrev pub PairIsReadInPlace : Type 0
PairIsReadInPlace =
    (lines : List Line) (lengths : List ℕ) (index : ℕ) (pattern : List SourceItem) (template : List TplItem) (later : List Line) (own : ℕ) (behind : List ℕ)
    → AreLengths lines lengths → drop index lines ≡ Pair pattern template ∷ later → drop index lengths ≡ own ∷ behind
    → IsReadable (pattern_of own behind pattern)
    → PairStands (drop (total (take index lengths)) (dna lines lengths)) (pattern_of own behind pattern) template [] (drop (total (take (index + 1) lengths)) (dna lines lengths))

-- whether a pattern can be read does not depend on the values
abbrev pub ReadableAlike : Type 0
ReadableAlike =
    (pattern : List SourceItem) (own other : ℕ) (behind later : List ℕ)
    → IsReadable (pattern_of own behind pattern) → IsReadable (pattern_of other later pattern)
