-- Sequences of parts, in a statement before which so many lines stand.
use Rattle.std.specs.Prelude.{ℕ, zero, suc, ◌==◌, ◌&&◌, ◌||◌, if◌then◌else◌, Bool, true, false, List, [], ◌∷◌, ◌++◌, Result, Ok, Err, length, map}
use Rattle.source_tokens.specs.declared.words.Token.{Token}
use Rattle.source_tokens.specs.declared.words.Word.{Word}
use Rattle.source_tokens.specs.declared.words.Word.TheVariants.{Bang, Bar, Open, Close, OpenBracket, OpenBrace, Less, Base, Name}
use Rattle.source_text.specs.declared.faults.Faults.{Faults}
use Rattle.source_text.specs.declared.pieces.Item.{Item}
use Rattle.source_text.specs.declared.pieces.Item.TheVariants.{Base as Literal, Group, Len, Skip, Search, Start, Stop}
use Rattle.source_text.specs.declared.pieces.Piece.{Piece}
use Rattle.source_text.specs.declared.sequences.Kind.{Kind}
use Rattle.source_text.specs.declared.sequences.Kind.TheVariants.{Pattern, Template, Bases}
use Rattle.source_text.specs.declared.signs.Sign.{Sign}
use Rattle.source_text.specs.declared.signs.Sign.TheVariants as sign
use Rattle.source_text.specs.Names.{Names, Meaning, Unknown, Reserved, Definition, Label, takes_templates}
use Rattle.source_text.specs.Pieces.{are_bases, bases_of, filled, piece_at, placed, times}
use Rattle.source_text.specs.Reading.{Read, and_read, behind, behind_one, number, stands, bad_name, both_faults, no_faults}
use Rattle.source_text.specs.Sums.{factor, sum}

-- pieces that were read, and whether all of their tokens serve
pub record Worth : Type 0 where
  pub pieces : List Piece
  pub faults : Faults

abbrev pub worth : List Piece → Faults → Worth
worth pieces faults = record { pieces = pieces; faults = faults }

abbrev pub nothing : Worth
nothing = worth [] no_faults

abbrev pub piece_worth : Item → ℕ → Faults → Worth
piece_worth item at faults = worth (piece_at at item ∷ []) faults

abbrev pub one : Item → ℕ → Worth
one item at = piece_worth item at no_faults

-- one behind the other
abbrev pub both : Worth → Worth → Worth
both a b = worth (a.pieces ++ b.pieces) (both_faults a.faults b.faults)

-- a part with `*` and a number behind it
abbrev pub repeated : Worth → ℕ → Faults → Worth
repeated part n faults = worth (times n part.pieces) (both_faults part.faults faults)

-- a sign is read behind what was read
abbrev pub closed_by : {A : Type 0} → A → Result (List Token) ℕ → Read A
closed_by found (Ok rest) = Ok (found, rest)
closed_by found (Err left) = Err left

abbrev pub closed : {A : Type 0} → Sign → A → List Token → Read A
closed end found rest = closed_by found (behind end rest)

-- templates that a use gives, and whether all of their tokens serve
pub record Uses : Type 0 where
  pub given : List (List Piece)
  pub faults : Faults

abbrev pub uses : List (List Piece) → Faults → Uses
uses given faults = record { given = given; faults = faults }

-- no pieces, at a name that does not serve
abbrev pub bad : ℕ → Worth
bad at = worth [] (bad_name at)

-- the search for bases
abbrev pub search_worth : ℕ → Worth → Worth
search_worth at found = if are_bases found.pieces then piece_worth (Search (bases_of found.pieces)) at found.faults else bad at

abbrev pub is_template : Kind → Bool
is_template Pattern = false
is_template Template = true
is_template Bases = false

-- pieces serve in a template, and bases everywhere; they stand where the name stands
abbrev pub served : Kind → ℕ → List Piece → Worth
served kind at pieces = if is_template kind || are_bases pieces then worth (map (placed at) pieces) no_faults else bad at

-- what a definition with so many parameters stands for
abbrev pub defined : Kind → ℕ → List (List Piece) → ℕ → List Piece → Worth
defined kind at given count pieces = if count == length given then served kind at (filled given pieces) else bad at

-- what a name stands for at a use of it
abbrev pub meant : Kind → ℕ → List (List Piece) → Meaning → Worth
meant kind at given Unknown = bad at
meant kind at given Reserved = bad at
meant kind at given (Definition count pieces) = defined kind at given count pieces
meant kind at given (Label label twice) = bad at

-- and whether the templates serve that it gives
abbrev pub use_of : Kind → ℕ → List (List Piece) → Meaning → Faults → Worth
use_of kind at given meaning faults = worth (meant kind at given meaning).pieces (both_faults (meant kind at given meaning).faults faults)

-- a part stands at the front
abbrev pub begins_by : (Word → Bool) → List Token → Bool
begins_by begins [] = false
begins_by begins (token ∷ rest) = begins token.word

-- parts one behind the other, up to a token that begins none
unfoldable pub parts : (Word → Bool) → (List Token → Read Worth) → ℕ → Worth → List Token → Read Worth
parts begins part zero found tokens = Err (length tokens)
parts begins part (suc most) found tokens =
    if begins_by begins tokens then and_read (part tokens) (λ next left. parts begins part most (both found next) left) else Ok (found, tokens)

-- a part with what repeats it
unfoldable pub repeats : ℕ → Worth → List Token → Read Worth
repeats zero part tokens = Err (length tokens)
repeats (suc most) part tokens =
    if stands sign.Star tokens then and_read (number (behind_one tokens)) (λ n left. repeats most (repeated part n.number n.faults) left) else Ok (part, tokens)

-- a part that may be repeated
abbrev pub repeatable : (List Token → Read Worth) → List Token → Read Worth
repeatable part tokens = and_read (part tokens) (λ found left. repeats (suc (length left)) found left)

-- parts of all sequences begin so
abbrev pub begins_common : Word → Bool
begins_common (Base b) = true
begins_common (Name id) = true
begins_common OpenBracket = true
begins_common word = false

abbrev pub begins : Kind → Word → Bool
begins Pattern Bang = true
begins Pattern Less = true
begins Pattern Open = true
begins Pattern Close = true
begins Template OpenBrace = true
begins Template Bar = true
begins kind word = begins_common word

-- how the inside of a bracket is read
abbrev pub Inside : Type 0
Inside = Kind → List Token → Read Worth

module _ (names : Names) (line : ℕ) (inside : Inside) where
  -- further templates that a use gives
  unfoldable pub templates : ℕ → Uses → List Token → Read Uses
  templates zero found tokens = Err (length tokens)
  templates (suc most) found tokens =
      if stands sign.Semicolon tokens
      then and_read (inside Template (behind_one tokens)) (λ next left. templates most (uses (found.given ++ next.pieces ∷ []) (both_faults found.faults next.faults)) left)
      else closed sign.CloseBracket found tokens

  -- the templates that a use gives, behind their bracket
  abbrev pub arguments : List Token → Read Uses
  arguments rest = and_read (inside Template rest) (λ first left. templates (suc (length left)) (uses (first.pieces ∷ []) first.faults) left)

  -- a name, and the templates that follow it
  unfoldable pub name_part : Kind → ℕ → ℕ → List Token → Read Worth
  name_part kind id at rest =
      if takes_templates (names id) && stands sign.OpenBracket rest
      then and_read (arguments (behind_one rest)) (λ given left. Ok (use_of kind at given.given (names id) given.faults, left))
      else Ok (use_of kind at [] (names id) no_faults, rest)

  abbrev pub bracket : Kind → List Token → Read Worth
  bracket kind rest = and_read (inside kind rest) (λ found left. closed sign.CloseBracket found left)

  -- a part of all sequences
  abbrev pub common_by : Kind → Word → ℕ → List Token → Read Worth
  common_by kind (Base b) at rest = Ok (one (Literal b) at, rest)
  common_by kind (Name id) at rest = name_part kind id at rest
  common_by kind OpenBracket at rest = bracket kind rest
  common_by kind word at rest = Err (suc (length rest))

  unfoldable pub common : Kind → List Token → Read Worth
  common kind [] = Err 0
  common kind (token ∷ rest) = common_by kind token.word token.at rest

  -- bases
  abbrev pub bases : List Token → Read Worth
  bases tokens = parts begins_common (repeatable (common Bases)) (suc (length tokens)) nothing tokens

  -- the search behind `<`, which stands at this place
  abbrev pub search_part : ℕ → List Token → Read Worth
  search_part at rest = and_read (bases rest) (λ found left. closed sign.Greater (search_worth at found) left)

  -- what a skip passes over, behind the `!` at this place: a number, a name, or a sum between braces
  abbrev pub sum_part : ℕ → List Token → Read Worth
  sum_part at tokens = and_read (sum names line tokens) (λ found left. closed sign.CloseBrace (piece_worth (Skip found.sum) at found.faults) left)

  unfoldable pub skip_part : ℕ → List Token → Read Worth
  skip_part at tokens =
      if stands sign.OpenBrace tokens
      then sum_part at (behind_one tokens)
      else and_read (factor names line tokens) (λ found left. Ok (piece_worth (Skip ((found.factor ∷ []) ∷ [])) at found.faults, left))

  -- the level of a group, or its end, behind its number
  unfoldable pub level_part : ℕ → ℕ → Faults → List Token → Read Worth
  level_part at n faults tokens =
      if stands sign.Comma tokens
      then and_read (number (behind_one tokens)) (λ level left. closed sign.CloseBrace (piece_worth (Group n level.number) at (both_faults faults level.faults)) left)
      else closed sign.CloseBrace (piece_worth (Group n 0) at faults) tokens

  abbrev pub group_part : ℕ → List Token → Read Worth
  group_part at rest = and_read (number rest) (λ n left. level_part at n.number n.faults left)

  abbrev pub len_part : ℕ → List Token → Read Worth
  len_part at rest = and_read (number rest) (λ n left. closed sign.Bar (piece_worth (Len n.number) at n.faults) left)

  -- a part of patterns alone, or of templates alone
  abbrev pub own_by : Kind → Word → ℕ → List Token → Read Worth
  own_by Pattern Bang at rest = skip_part at rest
  own_by Pattern Less at rest = search_part at rest
  own_by Pattern Open at rest = Ok (one Start at, rest)
  own_by Pattern Close at rest = Ok (one Stop at, rest)
  own_by Template OpenBrace at rest = group_part at rest
  own_by Template Bar at rest = len_part at rest
  own_by kind word at rest = Err (suc (length rest))

  unfoldable pub part : Kind → List Token → Read Worth
  part kind [] = Err 0
  part kind (token ∷ rest) = if begins_common token.word then common kind (token ∷ rest) else own_by kind token.word token.at rest

  -- a sequence, whose brackets are read so inside
  unfoldable pub sequence_by : Kind → List Token → Read Worth
  sequence_by kind tokens = parts (begins kind) (repeatable (part kind)) (suc (length tokens)) nothing tokens

-- what stands inside a bracket where brackets may go so many deeper, this one among them
unfoldable pub inside_at : Names → ℕ → ℕ → Kind → List Token → Read Worth
inside_at names line zero kind rest = Err (suc (length rest))
inside_at names line (suc depth) kind rest = sequence_by names line (inside_at names line depth) kind rest

-- a sequence: brackets may stand 64 deep within each other
abbrev pub sequence : Names → ℕ → Kind → List Token → Read Worth
sequence names line kind tokens = sequence_by names line (inside_at names line 64) kind tokens
