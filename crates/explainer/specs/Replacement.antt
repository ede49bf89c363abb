-- The replacement that a template makes of texts of cells.
use Rattle.std.specs.Prelude.{ℕ, zero, suc, Bool, false, List, [], ◌∷◌, ◌++◌, map, length, drop, not, unwrap_or, slice_get, slice_range}
use Rattle.std.specs.List.{flat_map, list_any}
use Rattle.fuun_base.specs.Quote.{protect, asnat}
use Rattle.dna_items.specs.declared.items.TplItem.{TplItem}
use Rattle.dna_items.specs.declared.items.TplItem.TheVariants.{Base as Literal, Group, Len}
use Rattle.sym_strand.specs.declared.cells.Cell.{Cell}
use Rattle.sym_strand.specs.declared.cells.Cell.TheVariants.{Known}
use Rattle.sym_strand.specs.Cells.{all_known, known_front}

-- the text of a group: past the last group it is empty
abbrev pub text_of : List (List Cell) → ℕ → List Cell
text_of texts n = unwrap_or (slice_get texts n) []

-- the texts of ranges of cells
abbrev pub texts_of : List Cell → List (ℕ × ℕ) → List (List Cell)
texts_of z ranges = map (λ range. slice_range z range.0 range.1) ranges

-- an item of a template quotes a text that holds a place of the target
abbrev pub quotes_target : List (List Cell) → TplItem → Bool
quotes_target texts (Literal b) = false
quotes_target texts (Group n zero) = false
quotes_target texts (Group n (suc level)) = not (all_known (text_of texts n))
quotes_target texts (Len n) = false

-- an item of the template does so
abbrev pub depends_on_target : List (List Cell) → List TplItem → Bool
depends_on_target texts items = list_any (quotes_target texts) items

-- what an item of a template puts, where it quotes only bases
abbrev pub put_by : List (List Cell) → TplItem → List Cell
put_by texts (Literal b) = Known b ∷ []
put_by texts (Group n zero) = text_of texts n
put_by texts (Group n (suc level)) = map Known (protect (suc level) (known_front (text_of texts n)))
put_by texts (Len n) = map Known (asnat (length (text_of texts n)))

-- the cells after a match that stopped at a place, with groups at these ranges
abbrev pub replaced : List Cell → List TplItem → List (ℕ × ℕ) → ℕ → List Cell
replaced z items ranges stop = flat_map (put_by (texts_of z ranges)) items ++ drop stop z
