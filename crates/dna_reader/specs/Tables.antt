-- The two tables of pieces, and what it is to read a pattern and a template.
use Rattle.std.specs.Prelude.{◌+◌, ◌-◌, List}
use Rattle.fuun_base.specs.declared.letters.Base.{Base}
use Rattle.dna_items.specs.declared.items.PatItem.{PatItem}
use Rattle.dna_items.specs.declared.items.TplItem.{TplItem}
use Rattle.dna_items.specs.Balance.{start_of, stop_of}
use Rattle.dna_reader.specs.Piece.{pattern_piece, template_piece}
use Rattle.dna_reader.specs.Reading.{Table, Reading, ReadsFrom}

-- patterns, in which groups are opened and ended
abbrev pub pattern_table : Table PatItem
pattern_table = record { piece_of = pattern_piece; opened_by = λ groups item. groups + start_of item - stop_of item }

-- templates, in which no group is ever open
abbrev pub template_table : Table TplItem
template_table = record { piece_of = λ is_open d. template_piece d; opened_by = λ groups item. groups }

-- d is read as a pattern
abbrev pub ReadsPattern : List Base → Reading PatItem → Type 0
ReadsPattern d reading = ReadsFrom pattern_table 0 d reading

-- d is read as a template
abbrev pub ReadsTemplate : List Base → Reading TplItem → Type 0
ReadsTemplate d reading = ReadsFrom template_table 0 d reading
