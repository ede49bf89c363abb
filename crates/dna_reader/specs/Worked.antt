-- Readings that were worked out by hand.
use Rattle.std.specs.Prelude.{◌≡◌, List, [], ◌∷◌}
use Rattle.fuun_base.specs.declared.letters.Base.{Base}
use Rattle.fuun_base.specs.declared.letters.Base.TheVariants.{I, C, F, P}
use Rattle.dna_items.specs.declared.items.PatItem.TheVariants.{Base as Literal, Skip, Search, GroupStart, GroupStop}
use Rattle.dna_items.specs.declared.items.TplItem.TheVariants.{Base as TplLiteral, Group}
use Rattle.dna_reader.specs.Codes.{pair_code}
use Rattle.dna_reader.specs.Reading.{Read, RanOut}
use Rattle.dna_reader.specs.Tables.{ReadsPattern, ReadsTemplate}

-- what stands behind the pattern of the first worked DNA
abbrev pub behind_pattern : List Base
behind_pattern = I ∷ C ∷ C ∷ I ∷ F ∷ P ∷ P ∷ I ∷ I ∷ C ∷ C ∷ F ∷ P ∷ C ∷ []

-- the pattern (!2)P
abbrev pub PatternWorked : Type 0
PatternWorked =
    ReadsPattern (I ∷ I ∷ P ∷ I ∷ P ∷ I ∷ C ∷ P ∷ I ∷ I ∷ C ∷ I ∷ C ∷ I ∷ I ∷ F ∷ behind_pattern)
    (Read (GroupStart ∷ Skip 2 ∷ GroupStop ∷ Literal P ∷ []) [] behind_pattern)

-- the template PI{0,0} behind it
abbrev pub TemplateWorked : Type 0
TemplateWorked = ReadsTemplate behind_pattern (Read (TplLiteral P ∷ TplLiteral I ∷ Group 0 0 ∷ []) [] (C ∷ F ∷ P ∷ C ∷ []))

-- a search takes one base behind IF, whichever it is, and then its constants
abbrev pub SearchWorked : Type 0
SearchWorked = ReadsPattern (I ∷ F ∷ F ∷ F ∷ P ∷ I ∷ I ∷ C ∷ C ∷ []) (Read (Search (C ∷ F ∷ []) ∷ []) [] (C ∷ []))

-- the command FPCFPCF between the items I and C
abbrev pub CommandWorked : Type 0
CommandWorked =
    ReadsPattern (C ∷ I ∷ I ∷ I ∷ F ∷ P ∷ C ∷ F ∷ P ∷ C ∷ F ∷ F ∷ I ∷ I ∷ F ∷ [])
    (Read (Literal I ∷ Literal C ∷ []) ((F ∷ P ∷ C ∷ F ∷ P ∷ C ∷ F ∷ []) ∷ []) [])

-- the DNA ends in a command, which is then a short one
abbrev pub ShortCommandWorked : Type 0
ShortCommandWorked = ReadsTemplate (I ∷ I ∷ I ∷ P ∷ I ∷ []) (RanOut ((P ∷ I ∷ []) ∷ []))

-- the numeral of a skip has no end
abbrev pub NoNumeralWorked : Type 0
NoNumeralWorked = ReadsPattern (I ∷ P ∷ C ∷ C ∷ []) (RanOut [])

-- a group is open where the DNA ends
abbrev pub OpenGroupWorked : Type 0
OpenGroupWorked = ReadsPattern (I ∷ I ∷ P ∷ I ∷ I ∷ C ∷ []) (RanOut [])

-- the pattern (!2)P and the template PI{0,0} as DNA
abbrev pub PairWorked : Type 0
PairWorked =
    pair_code (GroupStart ∷ Skip 2 ∷ GroupStop ∷ Literal P ∷ []) (TplLiteral P ∷ TplLiteral I ∷ Group 0 0 ∷ [])
    ≡ I ∷ I ∷ P ∷ I ∷ P ∷ I ∷ C ∷ P ∷ I ∷ I ∷ C ∷ I ∷ C ∷ I ∷ I ∷ C ∷ I ∷ C ∷ C ∷ I ∷ F ∷ P ∷ P ∷ I ∷ I ∷ C ∷ []

-- the pattern <CF> and no template as DNA
abbrev pub SearchPairWorked : Type 0
SearchPairWorked = pair_code (Search (C ∷ F ∷ []) ∷ []) [] ≡ I ∷ F ∷ F ∷ F ∷ P ∷ I ∷ I ∷ C ∷ I ∷ I ∷ C ∷ []
