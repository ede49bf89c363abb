-- The forms of statements.
use Rattle.std.specs.Prelude.{ℕ, zero, suc, if◌then◌else◌, Bool, true, false, List, [], ◌∷◌, ◌++◌, Result, Ok, Err, length}
use Rattle.source_tokens.specs.declared.words.Token.{Token}
use Rattle.source_tokens.specs.declared.words.Word.{Word}
use Rattle.source_tokens.specs.declared.words.Word.TheVariants.{Name}
use Rattle.source_text.specs.declared.forms.Head.{Head}
use Rattle.source_text.specs.declared.forms.Spot.{Spot}
use Rattle.source_text.specs.declared.pieces.Item.TheVariants.{Given}
use Rattle.source_text.specs.declared.sequences.Kind.TheVariants.{Pattern, Template, Bases}
use Rattle.source_text.specs.declared.signs.Sign.TheVariants as sign
use Rattle.source_text.specs.Names.{Names, Definition, with_meaning}
use Rattle.source_text.specs.Pieces.{piece_at}
use Rattle.source_text.specs.Reading.{Read, and_read, behind_one, either, is_sign, stands, to_end}
use Rattle.source_text.specs.Sequences.{Worth, closed, sequence}

-- a statement by its form
pub data Form : Type 0 where
  Pair : Worth → ℕ → Worth → Form
  Define : Spot → List Spot → Worth → Form
  Data : Worth → Form
  Mark : Spot → Form

abbrev pub spot_by : Word → ℕ → List Token → Read Spot
spot_by (Name id) at rest = Ok (record { id = id; at = at }, rest)
spot_by word at rest = Err (suc (length rest))

unfoldable pub spot : List Token → Read Spot
spot [] = Err 0
spot (token ∷ rest) = spot_by token.word token.at rest

-- a form that is all that there is
abbrev pub form_of : {A : Type 0} → (A → Form) → Read A → Result Form ℕ
form_of make (Ok found) = to_end (Ok (make found.0, found.1))
form_of make (Err left) = Err left

-- a name and `:`
abbrev pub label_form : List Token → Result Form ℕ
label_form tokens = form_of Mark (and_read (spot tokens) (λ name left. closed sign.Colon name left))

-- further names of parameters
unfoldable pub spots : ℕ → List Spot → List Token → Read (List Spot)
spots zero found tokens = Err (length tokens)
spots (suc most) found tokens =
    if stands sign.Semicolon tokens then and_read (spot (behind_one tokens)) (λ next left. spots most (found ++ next ∷ []) left)
    else closed sign.CloseBracket found tokens

-- the names of parameters between brackets, or none
unfoldable pub parameters : List Token → Read (List Spot)
parameters tokens =
    if stands sign.OpenBracket tokens then and_read (spot (behind_one tokens)) (λ first left. spots (suc (length left)) (first ∷ []) left)
    else Ok ([], tokens)

-- names with parameters, of which so many are known already
unfoldable pub with_parameters : ℕ → Names → List Spot → Names
with_parameters k names [] = names
with_parameters k names (name ∷ more) = with_parameters (suc k) (with_meaning names name.id (Definition 0 (piece_at 0 (Given k) ∷ []))) more

-- a name and its parameters, and `=`
abbrev pub head_of : Spot → List Spot → Head
head_of name parameters = record { name = name; parameters = parameters }

unfoldable pub head : List Token → Read Head
head tokens = and_read (spot tokens) (λ name left. and_read (parameters left) (λ given more. closed sign.Equals (head_of name given) more))

-- a template that is all that there is, as a definition's
abbrev pub define : Names → ℕ → Head → List Token → Result Form ℕ
define names line head rest = form_of (λ template. Define head.name head.parameters template) (sequence (with_parameters 0 names head.parameters) line Template rest)

abbrev pub define_by : Names → ℕ → Read Head → Result Form ℕ
define_by names line (Ok read) = define names line read.0 read.1
define_by names line (Err left) = Err left

-- a name and its parameters, `=` and a template
abbrev pub definition_form : Names → ℕ → List Token → Result Form ℕ
definition_form names line tokens = define_by names line (head tokens)

-- an arrow, and where it stands
unfoldable pub arrow : List Token → Read ℕ
arrow [] = Err 0
arrow (token ∷ rest) = if is_sign sign.Arrow token.word then Ok (token.at, rest) else Err (suc (length rest))

-- a pattern, `->` and a template
abbrev pub pair_form : Names → ℕ → List Token → Result Form ℕ
pair_form names line tokens = form_of (λ form. form)
    (and_read (sequence names line Pattern tokens) (λ pattern left. and_read (arrow left) (λ at rest.
    and_read (sequence names line Template rest) (λ template end. Ok (Pair pattern at template, end)))))

-- `data` and bases
abbrev pub data_form : Names → ℕ → List Token → Result Form ℕ
data_form names line rest = form_of Data (sequence names line Bases rest)

abbrev pub other_form : Names → ℕ → List Token → Result Form ℕ
other_form names line tokens = either (label_form tokens) (either (pair_form names line tokens) (definition_form names line tokens))

-- a statement that begins so is data
abbrev pub is_data : Word → Bool
is_data (Name zero) = true
is_data word = false

-- a statement by its form, or how many tokens are left where the reading stops
unfoldable pub form : Names → ℕ → List Token → Result Form ℕ
form names line [] = Err 0
form names line (token ∷ rest) = if is_data token.word then data_form names line rest else other_form names line (token ∷ rest)
