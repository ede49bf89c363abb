-- Pieces: what names and sequences stand for.
use Rattle.std.specs.Prelude.{ℕ, zero, suc, ◌+◌, Bool, true, false, List, [], ◌∷◌, ◌++◌, length, map, flat_map}
use Rattle.std.specs.List.{list_all}
use Rattle.fuun_base.specs.declared.letters.Base.{Base}
use Rattle.fuun_base.specs.declared.letters.Base.TheVariants.{I}
use Rattle.dna_items.specs.declared.items.PatItem.TheVariants.{Base as PatBase, Search as PatSearch, GroupStart, GroupStop}
use Rattle.dna_items.specs.declared.items.TplItem.{TplItem}
use Rattle.dna_items.specs.declared.items.TplItem.TheVariants.{Base as TplBase, Group as TplGroup, Len as TplLen}
use Rattle.source_items.specs.declared.lines.SourceItem.{SourceItem}
use Rattle.source_items.specs.declared.lines.SourceItem.TheVariants.{Fixed, Skip as SumSkip}
use Rattle.source_text.specs.declared.pieces.Item.{Item}
use Rattle.source_text.specs.declared.pieces.Item.TheVariants.{Base as Literal, Group, Len, Given, Skip, Search, Start, Stop}
use Rattle.source_text.specs.declared.pieces.Piece.{Piece}

abbrev pub piece_at : ℕ → Item → Piece
piece_at at item = record { item = item; at = at }

-- a piece at another place
abbrev pub placed : ℕ → Piece → Piece
placed at piece = piece_at at piece.item

abbrev pub is_base_item : Item → Bool
is_base_item (Literal b) = true
is_base_item (Group n level) = false
is_base_item (Len n) = false
is_base_item (Given k) = false
is_base_item (Skip sum) = false
is_base_item (Search s) = false
is_base_item Start = false
is_base_item Stop = false

abbrev pub is_base : Piece → Bool
is_base piece = is_base_item piece.item

-- how much a piece counts: one, and one more for each base of a search
abbrev pub item_size : Item → ℕ
item_size (Literal b) = 1
item_size (Group n level) = 1
item_size (Len n) = 1
item_size (Given k) = 1
item_size (Skip sum) = 1
item_size (Search s) = length s + 1
item_size Start = 1
item_size Stop = 1

abbrev pub size : List Piece → ℕ
size [] = 0
size (piece ∷ pieces) = item_size piece.item + size pieces

-- what stands for a base alone: no reference, no length and no parameter
abbrev pub are_bases : List Piece → Bool
are_bases pieces = list_all is_base pieces

-- the item of a template; other pieces than those of templates do not come into one
abbrev pub template_item : Item → TplItem
template_item (Literal b) = TplBase b
template_item (Group n level) = TplGroup n level
template_item (Len n) = TplLen n
template_item (Given k) = TplBase I
template_item (Skip sum) = TplBase I
template_item (Search s) = TplBase I
template_item Start = TplBase I
template_item Stop = TplBase I

-- the item of a pattern; likewise
abbrev pub pattern_item : Item → SourceItem
pattern_item (Literal b) = Fixed (PatBase b)
pattern_item (Group n level) = Fixed (PatBase I)
pattern_item (Len n) = Fixed (PatBase I)
pattern_item (Given k) = Fixed (PatBase I)
pattern_item (Skip sum) = SumSkip sum
pattern_item (Search s) = Fixed (PatSearch s)
pattern_item Start = Fixed GroupStart
pattern_item Stop = Fixed GroupStop

-- the base; likewise
abbrev pub base_item : Item → Base
base_item (Literal b) = b
base_item (Group n level) = I
base_item (Len n) = I
base_item (Given k) = I
base_item (Skip sum) = I
base_item (Search s) = I
base_item Start = I
base_item Stop = I

abbrev pub template_of : List Piece → List TplItem
template_of pieces = map (λ piece. template_item piece.item) pieces

abbrev pub pattern_of : List Piece → List SourceItem
pattern_of pieces = map (λ piece. pattern_item piece.item) pieces

abbrev pub bases_of : List Piece → List Base
bases_of pieces = map (λ piece. base_item piece.item) pieces

-- pieces so many times, one behind the other
unfoldable pub times : ℕ → List Piece → List Piece
times zero pieces = []
times (suc n) pieces = pieces ++ times n pieces

-- the templates given for parameters, by their places
abbrev pub given_at : List (List Piece) → ℕ → List Piece
given_at [] k = []
given_at (one ∷ given) zero = one
given_at (one ∷ given) (suc k) = given_at given k

-- what stands for a piece where templates are given for parameters
abbrev pub filled_by : List (List Piece) → Piece → Item → List Piece
filled_by given piece (Given k) = given_at given k
filled_by given piece item = piece ∷ []

abbrev pub filled_item : List (List Piece) → Piece → List Piece
filled_item given piece = filled_by given piece piece.item

-- pieces with templates in the place of parameters; where none is given, as they are
abbrev pub filled : List (List Piece) → List Piece → List Piece
filled [] pieces = pieces
filled (one ∷ given) pieces = flat_map (filled_item (one ∷ given)) pieces
