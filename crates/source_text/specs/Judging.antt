-- What a statement is taken for, or why it is refused.
use Rattle.std.specs.Prelude.{ℕ, ◌+◌, ◌-◌, ◌==◌, ◌&&◌, if◌then◌else◌, Bool, true, false, List, [], ◌∷◌, ◌++◌, Option, Some, None, Result, Ok, Err, length, nat_lt, slice_get, not}
use Rattle.source_items.specs.declared.lines.Line.{Line}
use Rattle.source_items.specs.declared.lines.Line.TheVariants.{Plain as PlainLine, Pair as PairLine}
use Rattle.source_tokens.specs.declared.statements.Statement.{Statement}
use Rattle.source_tokens.specs.declared.words.Token.{Token}
use Rattle.source_text.specs.declared.faults.Faults.{Faults}
use Rattle.source_text.specs.declared.forms.Spot.{Spot}
use Rattle.source_text.specs.declared.pieces.Item.{Item}
use Rattle.source_text.specs.declared.pieces.Item.TheVariants.{Base as Literal, Search, Start, Stop}
use Rattle.source_text.specs.declared.pieces.Piece.{Piece}
use Rattle.source_text.specs.declared.judging.Refusal.{Refusal}
use Rattle.source_text.specs.declared.judging.Refusal.TheVariants.{BadForm, BadName, BadNumber, TooLong, NoCode}
use Rattle.source_text.specs.Forms.{Form, Pair, Define, Data, Mark, form}
use Rattle.source_text.specs.Names.{Names, Meaning, Unknown, Reserved, Definition, Label, is_unknown, with_meaning}
use Rattle.source_text.specs.Pieces.{bases_of, pattern_of, size, template_of}
use Rattle.source_text.specs.Reading.{bad_name, both_faults, no_faults}
use Rattle.source_text.specs.Sequences.{Worth}

abbrev pub is_search : Item → Bool
is_search (Search s) = true
is_search item = false

-- a line, and where it stands: its arrow, or the first token of data
pub record Placed : Type 0 where
  pub line : Line
  pub at : ℕ

abbrev pub placed : Line → ℕ → Placed
placed line at = record { line = line; at = at }

-- what the statements so far come to
pub record State : Type 0 where
  pub names : Names
  pub lines : List Placed

abbrev pub state : Names → List Placed → State
state names lines = record { names = names; lines = lines }

-- where the reading stops: at a token, or behind the last
abbrev pub place_by : ℕ → Option Token → ℕ
place_by end (Some token) = token.at
place_by end None = end

abbrev pub stop_place : Statement → ℕ → ℕ
stop_place statement left = place_by statement.end (slice_get statement.tokens (length statement.tokens - left))

-- names that are defined and were known before
unfoldable pub known_faults : Names → List Spot → Faults
known_faults names [] = no_faults
known_faults names (name ∷ more) =
    both_faults (if is_unknown (names name.id) then no_faults else bad_name name.at) (known_faults (with_meaning names name.id Reserved) more)

-- names of a definition that do not serve: its own, or its parameters'
abbrev pub define_faults : Names → Spot → List Spot → Faults
define_faults names name given = both_faults (known_faults names (name ∷ [])) (known_faults names given)

-- a label's name is known by its own label alone
abbrev pub label_faults : Meaning → ℕ → Faults
label_faults Unknown at = bad_name at
label_faults Reserved at = bad_name at
label_faults (Definition count pieces) at = bad_name at
label_faults (Label line twice) at = if twice then bad_name at else no_faults

-- a piece does not serve behind so many open groups, or behind a search
abbrev pub refuses : ℕ → Bool → Item → Bool
refuses groups search (Literal b) = search
refuses groups search Stop = groups == 0
refuses groups search item = false

-- how many groups are open behind a piece
abbrev pub behind_piece : ℕ → Item → ℕ
behind_piece groups Start = groups + 1
behind_piece groups Stop = groups - 1
behind_piece groups item = groups

-- the first piece of a pattern that no DNA has: the end of no group, or a base directly behind a search; else the arrow,
-- where a group is still open
unfoldable pub no_code : ℕ → ℕ → Bool → List Piece → Option ℕ
no_code arrow groups search [] = if groups == 0 then None else Some arrow
no_code arrow groups search (piece ∷ pieces) =
    if refuses groups search piece.item then Some piece.at else no_code arrow (behind_piece groups piece.item) (is_search piece.item) pieces

abbrev pub judged_by : {A : Type 0} → Option ℕ → Option ℕ → Result A Refusal → Result A Refusal
judged_by (Some at) number next = Err (BadName at)
judged_by None (Some at) next = Err (BadNumber at)
judged_by None None next = next

-- names are judged first, then numbers, and then what follows
abbrev pub judged : {A : Type 0} → Faults → Result A Refusal → Result A Refusal
judged faults next = judged_by faults.name faults.number next

abbrev pub pair_line : Worth → Worth → Line
pair_line pattern template = PairLine (pattern_of pattern.pieces) (template_of template.pieces)

abbrev pub pair_by : State → Worth → ℕ → Worth → Option ℕ → Result State Refusal
pair_by before pattern arrow template (Some at) = Err (NoCode at)
pair_by before pattern arrow template None = Ok (state before.names (before.lines ++ placed (pair_line pattern template) arrow ∷ []))

-- a pattern of more pieces than the limit is not judged: its code is longer than the limit, and never made
abbrev pub no_code_within : ℕ → ℕ → List Piece → Option ℕ
no_code_within limit arrow pieces = if nat_lt limit (size pieces) then None else no_code arrow 0 false pieces

abbrev pub first_at : List Token → ℕ
first_at [] = 0
first_at (token ∷ rest) = token.at

-- what the statements come to with one more, of this form
abbrev pub taken : ℕ → State → List Token → Form → Result State Refusal
taken limit before tokens (Pair pattern arrow template) =
    judged (both_faults pattern.faults template.faults) (pair_by before pattern arrow template (no_code_within limit arrow pattern.pieces))
taken limit before tokens (Define name given template) =
    judged (both_faults (define_faults before.names name given) template.faults)
    (if not (length given == 0) && nat_lt limit (size template.pieces) then Err TooLong
    else Ok (state (with_meaning before.names name.id (Definition (length given) template.pieces)) before.lines))
taken limit before tokens (Data bases) = judged bases.faults (Ok (state before.names (before.lines ++ placed (PlainLine (bases_of bases.pieces)) (first_at tokens) ∷ [])))
taken limit before tokens (Mark name) = judged (label_faults (before.names name.id) name.at) (Ok before)

abbrev pub taken_if : ℕ → State → Statement → Result Form ℕ → Result State Refusal
taken_if limit before statement (Ok form) = taken limit before statement.tokens form
taken_if limit before statement (Err left) = Err (BadForm (stop_place statement left))

-- what the statements come to with one more, or why it is refused
unfoldable pub with_statement : ℕ → State → Statement → Result State Refusal
with_statement limit before statement = taken_if limit before statement (form before.names (length before.lines) statement.tokens)
