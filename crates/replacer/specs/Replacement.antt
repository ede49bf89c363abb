-- The replacement that a template makes of the texts of groups.
use Rattle.std.specs.Prelude.{ℕ, List, [], ◌∷◌, ◌++◌, map, length, drop, unwrap_or, slice_get, slice_range}
use Rattle.std.specs.List.{flat_map}
use Rattle.fuun_base.specs.declared.letters.Base.{Base}
use Rattle.fuun_base.specs.Quote.{protect, asnat}
use Rattle.dna_items.specs.declared.items.TplItem.{TplItem}
use Rattle.dna_items.specs.declared.items.TplItem.TheVariants.{Base as Literal, Group, Len}

-- the text of a group: past the last group it is empty
abbrev pub text_of : List (List Base) → ℕ → List Base
text_of texts n = unwrap_or (slice_get texts n) []

-- what an item of a template puts
abbrev pub put_by : List (List Base) → TplItem → List Base
put_by texts (Literal b) = b ∷ []
put_by texts (Group n level) = protect level (text_of texts n)
put_by texts (Len n) = asnat (length (text_of texts n))

-- the replacement: what the items put, joined
abbrev pub replacement : List (List Base) → List TplItem → List Base
replacement texts items = flat_map (put_by texts) items

-- the texts of ranges of d
abbrev pub texts_of : List Base → List (ℕ × ℕ) → List (List Base)
texts_of d ranges = map (λ range. slice_range d range.0 range.1) ranges

-- the DNA after a match that stopped at a place of d, with groups at these ranges of d
abbrev pub replaced : List Base → List TplItem → List (ℕ × ℕ) → ℕ → List Base
replaced d items ranges stop = replacement (texts_of d ranges) items ++ drop stop d
