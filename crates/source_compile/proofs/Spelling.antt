-- The tokens of an assembler's items, and the pieces that they are read as. The reading of sources exports neither its kinds
-- of sequences nor its items: so each is named by what is read as it.
use Rattle.std.proofs.Common.{◌≡◌, ℕ, ◌+◌, if◌then◌else◌, Result, Ok, Err, List, [], ◌∷◌, ◌++◌, length, refl}
use Rattle.fuun_base.specs.declared.letters.Base.{Base as BaseOf}
use Rattle.fuun_base.specs.Letter.{letter_of}
use Rattle.dna_items.specs.declared.items.PatItem.{PatItem}
use Rattle.dna_items.specs.declared.items.PatItem.TheVariants as pat
use Rattle.dna_items.specs.declared.items.TplItem.{TplItem}
use Rattle.dna_items.specs.declared.items.TplItem.TheVariants as tpl
use Rattle.listing.specs.Texts.{number_text, pattern_item_text, pattern_text, template_item_text}
use Rattle.source_text.specs.Forms.{Data, Form, data_form, form_of, pair_form}
use Rattle.source_text.specs.Names.{Names, Unknown}
use Rattle.source_text.specs.Pieces.{are_bases, is_base, is_base_item, piece_at}
use Rattle.source_text.specs.Reading.{Read, and_read, behind, no_faults, number}
use Rattle.source_text.specs.Sequences.{Inside, Uses, Worth, arguments, bad, common_by, group_part, is_template, len_part, level_part, one, own_by, piece_worth, search_worth, sequence, skip_part, worth}
use Rattle.source_text.specs.Sums.{factor}
use Rattle.source_tokens.specs.declared.words.Token.{Token}
use Rattle.source_tokens.specs.declared.words.Word.TheVariants.{Arrow, Comma, Bang, Bar, Open, Close, OpenBrace, CloseBrace, Less, Greater, Base, Number}
use Rattle.source_tokens.specs.Words.{token_at}
use Rattle.assembler.specs.Answers.{Pair}

-- what a function is given
abbrev Given : {A B : Type 0} → (A → B) → Type 0
Given {A} f = A

abbrev pub Item : Type 0
Item = Given is_base_item

abbrev pub Piece : Type 0
Piece = Given is_base

abbrev pub Kind : Type 0
Kind = Given is_template

-- kinds of sequences

abbrev no_names : Names
no_names id = Unknown

abbrev data_kind : (kind : Kind) (make : Read Worth → Result Form ℕ) → ((tokens : List Token) → data_form no_names 0 tokens ≡ make (sequence no_names 0 kind tokens)) → Kind
data_kind kind make is = kind

abbrev pair_kind : (kind : Kind) (next : Worth → List Token → Read Form) → ((tokens : List Token) → pair_form no_names 0 tokens ≡ form_of (λ form. form) (and_read (sequence no_names 0 kind tokens) next)) → Kind
pair_kind kind next is = kind

abbrev use_kind : (kind : Kind) (next : Inside → Worth → List Token → Read Uses) → ((inside : Inside) (tokens : List Token) → arguments no_names 0 inside tokens ≡ and_read (inside kind tokens) (next inside)) → Kind
use_kind kind next is = kind

abbrev pub bases_kind : Kind
bases_kind = data_kind _ (form_of Data) (λ tokens. refl)

abbrev pub pattern_kind : Kind
pattern_kind = pair_kind _ _ (λ tokens. refl)

abbrev pub template_kind : Kind
template_kind = use_kind _ _ (λ inside tokens. refl)

-- items

abbrev no_inside : Inside
no_inside kind tokens = Err 0

abbrev item_of : (item : Item) (read : Read Worth) → read ≡ Ok (one item 0, []) → Item
item_of item read is = item

abbrev numbered_item : (item : Item) (faults : _) (read : Read Worth) → read ≡ Ok (piece_worth item 0 faults, []) → Item
numbered_item item faults read is = item

abbrev search_item : (item : Item) (found : Worth) → search_worth 0 found ≡ (if are_bases found.pieces then piece_worth item 0 found.faults else bad 0) → Item
search_item item found is = item

abbrev pub letter_piece : BaseOf → Item
letter_piece b = item_of _ (common_by no_names 0 no_inside bases_kind (Base b) 0 []) refl

abbrev pub start_piece : Item
start_piece = item_of _ (own_by no_names 0 no_inside pattern_kind Open 0 []) refl

abbrev pub stop_piece : Item
stop_piece = item_of _ (own_by no_names 0 no_inside pattern_kind Close 0 []) refl

abbrev pub skip_piece : ℕ → Item
unfolding skip_part factor
skip_piece n = numbered_item _ _ (own_by no_names 0 no_inside pattern_kind Bang 0 (token_at (Number n) 0 ∷ [])) refl

abbrev pub len_piece : ℕ → Item
unfolding number behind
len_piece n = numbered_item _ _ (len_part no_names 0 no_inside 0 (token_at (Number n) 0 ∷ token_at Bar 0 ∷ [])) refl

abbrev pub group_piece : ℕ → ℕ → Item
unfolding number behind level_part
group_piece n level = numbered_item _ _ (group_part no_names 0 no_inside 0 (token_at (Number n) 0 ∷ token_at Comma 0 ∷ token_at (Number level) 0 ∷ token_at CloseBrace 0 ∷ [])) refl

-- things that stand one behind the other from a place on, each with its own text

-- their tokens
abbrev pub tokens_of : {X : Type 0} → (X → List ℕ) → (ℕ → X → List Token) → ℕ → List X → List Token
tokens_of text each at [] = []
tokens_of text each at (x ∷ xs) = each at x ++ tokens_of text each (at + length (text x)) xs

-- and their pieces, one for each
abbrev pub pieces_of : {X : Type 0} → (X → List ℕ) → (X → Item) → ℕ → List X → List Piece
pieces_of text item at [] = []
pieces_of text item at (x ∷ xs) = piece_at at (item x) ∷ pieces_of text item (at + length (text x)) xs

-- letters

abbrev pub letter_text : BaseOf → List ℕ
letter_text b = letter_of b ∷ []

abbrev pub letter_tokens : ℕ → BaseOf → List Token
letter_tokens at b = token_at (Base b) at ∷ []

-- items of patterns

abbrev pub pattern_tokens : ℕ → PatItem → List Token
pattern_tokens at (pat.Base b) = token_at (Base b) at ∷ []
pattern_tokens at (pat.Skip n) = token_at Bang at ∷ token_at (Number n) (at + 1) ∷ []
pattern_tokens at (pat.Search s) = token_at Less at ∷ (tokens_of letter_text letter_tokens (at + 1) s ++ token_at Greater (at + 1 + length s) ∷ [])
pattern_tokens at pat.GroupStart = token_at Open at ∷ []
pattern_tokens at pat.GroupStop = token_at Close at ∷ []

abbrev pub search_piece : List BaseOf → Item
search_piece s = search_item _ (worth (pieces_of letter_text letter_piece 0 s) no_faults) refl

abbrev pub pattern_piece : PatItem → Item
pattern_piece (pat.Base b) = letter_piece b
pattern_piece (pat.Skip n) = skip_piece n
pattern_piece (pat.Search s) = search_piece s
pattern_piece pat.GroupStart = start_piece
pattern_piece pat.GroupStop = stop_piece

-- items of templates

-- the place behind a sign and a number
abbrev pub behind_number : ℕ → ℕ → ℕ
behind_number at n = at + 1 + length (number_text n)

abbrev pub template_tokens : ℕ → TplItem → List Token
template_tokens at (tpl.Base b) = token_at (Base b) at ∷ []
template_tokens at (tpl.Group n level) =
    token_at OpenBrace at ∷ token_at (Number n) (at + 1)
    ∷ token_at Comma (behind_number at n) ∷ token_at (Number level) (behind_number at n + 1)
    ∷ token_at CloseBrace (behind_number (behind_number at n) level) ∷ []
template_tokens at (tpl.Len n) = token_at Bar at ∷ token_at (Number n) (at + 1) ∷ token_at Bar (behind_number at n) ∷ []

abbrev pub template_piece : TplItem → Item
template_piece (tpl.Base b) = letter_piece b
template_piece (tpl.Group n level) = group_piece n level
template_piece (tpl.Len n) = len_piece n

-- pairs

-- the place behind the pattern of a pair
abbrev pub behind_pattern : ℕ → Pair → ℕ
behind_pattern at pair = at + length (pattern_text pair.0)

abbrev pub pair_tokens : ℕ → Pair → List Token
pair_tokens at pair =
    tokens_of pattern_item_text pattern_tokens at pair.0
    ++ (token_at Arrow (behind_pattern at pair + 1) ∷ tokens_of template_item_text template_tokens (behind_pattern at pair + 4) pair.1)

abbrev pub pattern_pieces : ℕ → Pair → List Piece
pattern_pieces at pair = pieces_of pattern_item_text pattern_piece at pair.0

abbrev pub template_pieces : ℕ → Pair → List Piece
template_pieces at pair = pieces_of template_item_text template_piece (behind_pattern at pair + 4) pair.1
