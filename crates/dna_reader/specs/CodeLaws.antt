-- What holds of items written as DNA.
use Rattle.std.specs.Prelude.{◌≡◌, ℕ, Some, List, [], ◌++◌, length}
use Rattle.fuun_base.specs.declared.letters.Base.{Base}
use Rattle.fuun_base.specs.Quote.{asnat}
use Rattle.dna_items.specs.declared.items.PatItem.{PatItem}
use Rattle.dna_items.specs.declared.items.TplItem.{TplItem}
use Rattle.dna_reader.specs.Codes.{end_code, pattern_code, template_code, pair_code, IsReadable}
use Rattle.dna_reader.specs.Numeral.{numeral}
use Rattle.dna_reader.specs.Pairs.{PairStands}
use Rattle.dna_reader.specs.Reading.{Read}
use Rattle.dna_reader.specs.Tables.{ReadsPattern, ReadsTemplate}

-- a number written as bases is read again, whatever follows
abbrev pub NumberIsRead : Type 0
NumberIsRead = (n : ℕ) (rest : List Base) → numeral (asnat n ++ rest) ≡ Some (n, length (asnat n))

-- before the end the code of a pattern is read as its items, without RNA, and leaves what follows
abbrev pub PatternCodeIsRead : Type 0
PatternCodeIsRead =
    (items : List PatItem) (rest : List Base)
    → IsReadable items → ReadsPattern (pattern_code items ++ (end_code ++ rest)) (Read items [] rest)

-- and no DNA is read without RNA as other patterns than those
abbrev pub OnlyReadableIsRead : Type 0
OnlyReadableIsRead = (d : List Base) (items : List PatItem) (rest : List Base) → ReadsPattern d (Read items [] rest) → IsReadable items

-- before the end the code of a template is read as its items, without RNA, and leaves what follows
abbrev pub TemplateCodeIsRead : Type 0
TemplateCodeIsRead = (items : List TplItem) (rest : List Base) → ReadsTemplate (template_code items ++ (end_code ++ rest)) (Read items [] rest)

-- the code of a pair is read as the pair, without RNA, and leaves what follows
abbrev pub PairCodeIsRead : Type 0
PairCodeIsRead =
    (pattern : List PatItem) (template : List TplItem) (rest : List Base)
    → IsReadable pattern → PairStands (pair_code pattern template ++ rest) pattern template [] rest
