-- What names stand for.
use Rattle.std.specs.Prelude.{codes, flat_map, ℕ, zero, suc, ◌-◌, ◌==◌, ◌&&◌, if◌then◌else◌, Bool, true, false, Option, Some, None, List, [], ◌∷◌, ◌++◌, not, nat_lt, min, ◌^◌}
use Rattle.fuun_base.specs.declared.letters.Base.{Base}
use Rattle.fuun_base.specs.Letter.{base_of}
use Rattle.rna_code.specs.Commands.{Row, rows_of}
use Rattle.rna_code.specs.declared.profile.Profile.TheVariants.{Plain}
use Rattle.source_items.specs.declared.lines.Factor.{Factor}
use Rattle.source_items.specs.declared.lines.Factor.TheVariants.{Number, Rest, Own, Next}
use Rattle.source_text.specs.declared.pieces.Item.TheVariants.{Base as Literal}
use Rattle.source_text.specs.declared.pieces.Piece.{Piece}
use Rattle.source_text.specs.Pieces.{are_bases, piece_at, size}

-- what a name stands for: nothing yet; a word of the language; pieces, with templates for so many parameters; or a place
-- behind so many lines, where a second label of this name may stand
pub data Meaning : Type 0 where
  Unknown : Meaning
  Reserved : Meaning
  Definition : ℕ → List Piece → Meaning
  Label : ℕ → Bool → Meaning

-- what each name stands for, by its number
abbrev pub Names : Type 0
Names = ℕ → Meaning

abbrev pub with_meaning : Names → ℕ → Meaning → Names
with_meaning names id meaning = λ other. if other == id then meaning else names other

-- the base of a letter
abbrev pub letter_by : Option Base → List Piece
letter_by None = []
letter_by (Some b) = piece_at 0 (Literal b) ∷ []

abbrev pub letter_piece : ℕ → List Piece
letter_piece letter = letter_by (base_of letter)

abbrev pub letter_pieces : List ℕ → List Piece
letter_pieces letters = flat_map letter_piece letters

-- the ten bases of a command: III and its seven
abbrev pub command_pieces : Row → List Piece
command_pieces row = letter_pieces (codes "III" ++ row.letters)

-- what the commands stand for, one after the other
abbrev pub commands_from : List Row → Names
commands_from [] id = Unknown
commands_from (row ∷ rows) zero = Definition 0 (command_pieces row)
commands_from (row ∷ rows) (suc id) = commands_from rows id

-- the names `data`, `rest` and `self`, and behind them those of the commands
unfoldable pub first_meanings : Names
first_meanings id = if nat_lt id 3 then Reserved else commands_from (rows_of Plain) (id - 3)

abbrev pub is_unknown : Meaning → Bool
is_unknown Unknown = true
is_unknown Reserved = false
is_unknown (Definition count pieces) = false
is_unknown (Label line twice) = false

-- templates may follow a name: not one that stands for pieces without parameters, behind which a bracket is a part by itself
abbrev pub takes_templates : Meaning → Bool
takes_templates Unknown = true
takes_templates Reserved = true
takes_templates (Definition count pieces) = not (count == 0)
takes_templates (Label line twice) = true

-- the lines between a line and the place behind it that a label names
abbrev pub next_lines : ℕ → ℕ → Option Factor
next_lines line label = if nat_lt line label then Some (Next (label - line - 1)) else None

-- the number that a name stands for in a sum of the line before which so many stand
abbrev pub meant_number : ℕ → Meaning → Option Factor
meant_number line Unknown = None
meant_number line Reserved = None
meant_number line (Definition count pieces) = if count == 0 && are_bases pieces then Some (Number (min (size pieces) (2 ^ 63))) else None
meant_number line (Label label twice) = next_lines line label

abbrev pub number_named : Names → ℕ → ℕ → Option Factor
number_named names line id = if id == 1 then Some Rest else if id == 2 then Some Own else meant_number line (names id)
