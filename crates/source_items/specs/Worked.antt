-- Lengths and values that were worked out by hand.
use Rattle.std.specs.Prelude.{◌≡◌, ◌-◌, ◌^◌, true, false, [], ◌∷◌}
use Rattle.dna_items.specs.declared.items.PatItem.TheVariants.{Skip as PatSkip, GroupStart, GroupStop}
use Rattle.dna_items.specs.declared.items.TplItem.TheVariants.{Group}
use Rattle.source_items.specs.declared.lines.Factor.TheVariants.{Number, Rest, Own, Next}
use Rattle.source_items.specs.declared.lines.Line.{Line}
use Rattle.source_items.specs.declared.lines.Line.TheVariants.{Pair, Long}
use Rattle.source_items.specs.declared.lines.SourceItem.TheVariants.{Fixed, Skip}
use Rattle.source_items.specs.Lines.{is_small, line_len}
use Rattle.source_items.specs.Values.{sum_value}

-- `(!self)!1 -> {0}{0}`
abbrev pub loop_line : Line
loop_line = Pair (Fixed GroupStart ∷ Skip ((Own ∷ []) ∷ []) ∷ Fixed GroupStop ∷ Fixed (PatSkip 1) ∷ []) (Group 0 0 ∷ Group 0 0 ∷ [])

-- it has 33 bases where 33 stands for its length, and other lengths where its first lengths do
abbrev pub OwnLengthWorked : Type 0
OwnLengthWorked = (line_len 0 [] loop_line ≡ 27) × (line_len 27 [] loop_line ≡ 32) × (line_len 32 [] loop_line ≡ 33) × (line_len 33 [] loop_line ≡ 33)

-- `rest`, the label behind two lines, and `7*self+1`, in a line of 5 bases before lines of 4, 2 and 1; and 2^63 alone is too great
abbrev pub ValuesWorked : Type 0
ValuesWorked =
    (sum_value 5 (4 ∷ 2 ∷ 1 ∷ []) ((Rest ∷ []) ∷ []) ≡ 7) × (sum_value 5 (4 ∷ 2 ∷ 1 ∷ []) ((Next 2 ∷ []) ∷ []) ≡ 6)
    × (sum_value 5 (4 ∷ 2 ∷ 1 ∷ []) ((Number 7 ∷ Own ∷ []) ∷ (Number 1 ∷ []) ∷ []) ≡ 36)
    × (is_small 0 [] ((Number (2 ^ 63) ∷ Number 0 ∷ []) ∷ (Number (2 ^ 63 - 1) ∷ []) ∷ []) ≡ true)
    × (is_small 0 [] ((Number (2 ^ 63 - 1) ∷ []) ∷ (Number 1 ∷ []) ∷ []) ≡ false)

-- a long line of 40 bases and twice a skip over its own length: of `!5`, twice 6 bases; and where the skip stands nowhere, 40 alone
abbrev pub LongWorked : Type 0
LongWorked =
    (line_len 5 [] (Long (record { count = 2; sum = (Own ∷ []) ∷ [] } ∷ []) 40) ≡ 52)
    × (line_len 5 [] (Long (record { count = 0; sum = (Own ∷ []) ∷ [] } ∷ []) 40) ≡ 40)
