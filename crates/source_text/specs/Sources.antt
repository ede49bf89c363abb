-- Sources: what their statements come to, one after the other.
use Rattle.std.specs.Prelude.{ℕ, ◌+◌, if◌then◌else◌, Bool, true, false, List, [], ◌∷◌, Result, Ok, Err}
use Rattle.std.specs.List.{list_any}
use Rattle.source_tokens.specs.declared.statements.Statement.{Statement}
use Rattle.source_tokens.specs.declared.words.Token.{Token}
use Rattle.source_tokens.specs.declared.words.Word.{Word}
use Rattle.source_tokens.specs.declared.words.Word.TheVariants.{Name}
use Rattle.source_tokens.specs.Statements.{statements}
use Rattle.source_text.specs.declared.judging.Refusal.{Refusal}
use Rattle.source_text.specs.declared.signs.Sign.TheVariants as sign
use Rattle.source_text.specs.Judging.{Placed, State, state, with_statement}
use Rattle.source_text.specs.Names.{Names, Meaning, Unknown, Reserved, Definition, Label, first_meanings, with_meaning}
use Rattle.source_text.specs.Reading.{is_sign}

-- what a name stands for behind a label before which so many lines stand
abbrev pub with_label : ℕ → Meaning → Meaning
with_label line Unknown = Label line false
with_label line Reserved = Reserved
with_label line (Definition count pieces) = Definition count pieces
with_label line (Label other twice) = Label other true

abbrev pub is_equals : Token → Bool
is_equals token = is_sign sign.Equals token.word

-- labels, and how many lines stand before the statements that follow
pub record Labels : Type 0 where
  pub names : Names
  pub lines : ℕ

abbrev pub labels : Names → ℕ → Labels
labels names lines = record { names = names; lines = lines }

-- a statement is a line where it is no definition
abbrev pub with_line : Labels → List Token → Labels
with_line before tokens = if list_any is_equals tokens then before else labels before.names (before.lines + 1)

abbrev pub with_mark : Labels → Word → Labels
with_mark before (Name id) = labels (with_meaning before.names id (with_label before.lines (before.names id))) before.lines
with_mark before word = before

-- a label is two tokens, of which the second is `:`
abbrev pub labels_with : Labels → List Token → Labels
labels_with before (first ∷ second ∷ []) = if is_sign sign.Colon second.word then with_mark before first.word else with_line before (first ∷ second ∷ [])
labels_with before tokens = with_line before tokens

-- the names with the labels of all statements
unfoldable pub labels_of : Labels → List Statement → Names
labels_of before [] = before.names
labels_of before (statement ∷ more) = labels_of (labels_with before statement.tokens) more

abbrev pub and_taken : {A : Type 0} → Result State Refusal → (State → Result A Refusal) → Result A Refusal
and_taken (Ok before) more = more before
and_taken (Err refusal) more = Err refusal

-- what the statements come to, or the first refusal
unfoldable pub taken_all : ℕ → State → List Statement → Result State Refusal
taken_all limit before [] = Ok before
taken_all limit before (statement ∷ more) = and_taken (with_statement limit before statement) (λ next. taken_all limit next more)

-- the lines of a source, or why its first statement is refused that is
abbrev pub lines_of : ℕ → List ℕ → Result (List Placed) Refusal
lines_of limit source = and_taken (taken_all limit (state (labels_of (labels first_meanings 0) (statements source)) []) (statements source)) (λ all. Ok all.lines)
