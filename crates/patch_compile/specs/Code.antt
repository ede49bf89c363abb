-- Rows as DNA: for each row a pattern and a template that make the machine carry it out.
use Rattle.std.specs.Prelude.{ℕ, ◌+◌, ◌-◌, if◌then◌else◌, List, [], ◌∷◌, ◌++◌, length, nat_le}
use Rattle.std.specs.List.{flat_map}
use Rattle.fuun_base.specs.declared.letters.Base.{Base}
use Rattle.fuun_base.specs.Quote.{quote}
use Rattle.dna_items.specs.declared.items.PatItem.{PatItem}
use Rattle.dna_items.specs.declared.items.PatItem.TheVariants.{Skip, GroupStart, GroupStop}
use Rattle.dna_items.specs.declared.items.TplItem.TheVariants.{Group}
use Rattle.dna_reader.specs.Codes.{end_code, pattern_item_code, pattern_code, template_item_code}
use Rattle.patch_text.specs.declared.rows.PatchRow.{PatchRow}
use Rattle.patch_text.specs.declared.rows.PatchRow.TheVariants.{Edit, Copy, Move}

-- the items `(!n)`: a group of n bases
abbrev pub grouped : ℕ → List PatItem
grouped n = GroupStart ∷ Skip n ∷ GroupStop ∷ []

-- the code of such a group
abbrev pub skip_group : ℕ → List Base
skip_group n = pattern_code (grouped n)

-- the text of a group as it stands, `{n,0}`
abbrev pub reference : ℕ → List Base
reference group = template_item_code (Group group 0)

-- the part of an edit: n bases stay, those that are cut go, and others are put in their place
abbrev pub edit_code : ℕ → ℕ → List Base → List Base
edit_code n cut put = skip_group n ++ (pattern_item_code (Skip cut) ++ (end_code ++ (reference 0 ++ (quote put ++ end_code))))

-- the part of a copy or a move: three groups of a, b and c bases, put as the references say
abbrev pub range_code : ℕ → ℕ → ℕ → List ℕ → List Base
range_code a b c references = skip_group a ++ (skip_group b ++ (skip_group c ++ (end_code ++ (flat_map reference references ++ end_code))))

-- the part of a row before r bases of further parts, which its first skip passes over
abbrev pub copy_code : ℕ → ℕ → ℕ → ℕ → List Base
copy_code source count target r =
    if nat_le target source then range_code (target + r) (source - target) count (0 ∷ 2 ∷ 1 ∷ 2 ∷ [])
    else if nat_le (source + count) target then range_code (source + r) count (target - source - count) (0 ∷ 1 ∷ 2 ∷ 1 ∷ [])
    else range_code (source + r) (target - source) (source + count - target) (0 ∷ 1 ∷ 1 ∷ 2 ∷ 2 ∷ [])

abbrev pub move_code : ℕ → ℕ → ℕ → ℕ → List Base
move_code source count target r =
    if nat_le target source then range_code (target + r) (source - target) count (0 ∷ 2 ∷ 1 ∷ [])
    else range_code (source + r) count (target - source) (0 ∷ 2 ∷ 1 ∷ [])

abbrev pub row_code : PatchRow → ℕ → List Base
row_code (Edit place cut put) r = edit_code (place + r) cut put
row_code (Copy source count target) r = copy_code source count target r
row_code (Move source count target) r = move_code source count target r

-- the parts of rows, in order
abbrev pub prefix : List PatchRow → List Base
prefix [] = []
prefix (row ∷ rows) = row_code row (length (prefix rows)) ++ prefix rows
