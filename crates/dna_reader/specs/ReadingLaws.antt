-- What holds of readings, of constants and of numerals.
use Rattle.std.specs.Prelude.{◌≡◌, ℕ, ◌+◌, ◌*◌, ◌<◌, ◌≤◌, Bool, Some, None, List, [], ◌∷◌, length}
use Rattle.std.specs.Option.{option_map}
use Rattle.fuun_base.specs.declared.letters.Base.{Base}
use Rattle.fuun_base.specs.declared.letters.Base.TheVariants.{I, C, F, P}
use Rattle.dna_items.specs.declared.items.PatItem.{PatItem}
use Rattle.dna_items.specs.declared.items.TplItem.{TplItem}
use Rattle.dna_items.specs.Balance.{IsBalanced}
use Rattle.dna_reader.specs.Numeral.{numeral}
use Rattle.dna_reader.specs.Constants.{IsConstants, consts}
use Rattle.dna_reader.specs.Piece.{Piece}
use Rattle.dna_reader.specs.Reading.{Table, Cut, IsCutting, Reading, Read, RanOut, ReadsFrom}
use Rattle.dna_reader.specs.Pairs.{PairStands, PairRunsOut, PairGives}
use Rattle.dna_reader.specs.Tables.{ReadsPattern}

-- each piece of the table takes one base at least, and none that is not there
pub record TakesWhatIsThere {Item : Type 0} (table : Table Item) : Type 0 where
  pub takes : (is_open : Bool) (d : List Base) (p : Piece Item) → table.piece_of is_open d ≡ Some p → (0 < p.takes) × (p.takes ≤ length d)

-- each DNA has a cutting
abbrev pub HasCutting : {Item : Type 0} → Table Item → Type 0
HasCutting {Item} table = (groups : ℕ) (d : List Base) → (cuts : List (Cut Item)) × (rest : List Base) × IsCutting table groups d cuts rest

-- and it has only one, with one rest, whether it comes to an end or runs out
abbrev pub HasOneCutting : {Item : Type 0} → Table Item → Type 0
HasOneCutting {Item} table =
    (groups : ℕ) (d : List Base) (a b : List (Cut Item)) (r s : List Base)
    → IsCutting table groups d a r → IsCutting table groups d b s → (a ≡ b) × (r ≡ s)

-- each DNA has a reading
abbrev pub HasReading : {Item : Type 0} → Table Item → Type 0
HasReading {Item} table = (groups : ℕ) (d : List Base) → (reading : Reading Item) × ReadsFrom table groups d reading

-- and it has only one
abbrev pub HasOneReading : {Item : Type 0} → Table Item → Type 0
HasOneReading {Item} table = (groups : ℕ) (d : List Base) (a b : Reading Item) → ReadsFrom table groups d a → ReadsFrom table groups d b → a ≡ b

-- the items, the commands and the rest are together at most as many as the bases
abbrev pub HasShortReadings : {Item : Type 0} → Table Item → Type 0
HasShortReadings {Item} table =
    (groups : ℕ) (d : List Base) (items : List Item) (rna : List (List Base)) (rest : List Base)
    → ReadsFrom table groups d (Read items rna rest)
    → length items + length rna + length rest ≤ length d

-- where a reading runs out, it gave at most as many commands as there are bases
abbrev pub HasShortRna : {Item : Type 0} → Table Item → Type 0
HasShortRna {Item} table = (groups : ℕ) (d : List Base) (rna : List (List Base)) → ReadsFrom table groups d (RanOut rna) → length rna ≤ length d

-- the items of a pattern that was read to its end are balanced
abbrev pub PatternsAreBalanced : Type 0
PatternsAreBalanced = (d : List Base) (items : List PatItem) (rna : List (List Base)) (rest : List Base) → ReadsPattern d (Read items rna rest) → IsBalanced items

-- each DNA is read as a pair, or the pair runs out
abbrev pub HasPair : Type 0
HasPair = (d : List Base) → (rna : List (List Base)) × PairGives d rna

-- two pairs are the same, and so are their RNA and what they leave
pub record IsSamePair (p q : List PatItem) (s t : List TplItem) (x y : List (List Base)) (a b : List Base) : Type 0 where
  pub pattern : p ≡ q
  pub template : s ≡ t
  pub rna : x ≡ y
  pub rest : a ≡ b

-- a DNA is read as one pair only
abbrev pub HasOnePair : Type 0
HasOnePair =
    (d : List Base) (p q : List PatItem) (s t : List TplItem) (x y : List (List Base)) (a b : List Base)
    → PairStands d p s x a → PairStands d q t y b → IsSamePair p q s t x y a b

-- a pair that is read to its end does not run out
abbrev pub PairsDoNotRunOut : Type 0
PairsDoNotRunOut = (d : List Base) (pattern : List PatItem) (template : List TplItem) (x y : List (List Base)) (rest : List Base) → PairStands d pattern template x rest → PairRunsOut d y → ⊥

-- and in either case there is only one RNA
abbrev pub PairGivesOnce : Type 0
PairGivesOnce = (d : List Base) (x y : List (List Base)) → PairGives d x → PairGives d y → x ≡ y

-- consts gives the longest list whose quote begins the DNA
abbrev pub ConstantsAreLongest : Type 0
ConstantsAreLongest = (d : List Base) → IsConstants (consts d) d

-- and there is no other such list
abbrev pub ConstantsAreOne : Type 0
ConstantsAreOne = (s d : List Base) → IsConstants s d → s ≡ consts d

-- a further lowest digit doubles a numeral, and adds 1 where the digit is C
abbrev pub NumeralByDigits : Type 0
NumeralByDigits =
    (d : List Base)
    → (numeral (C ∷ d) ≡ option_map (λ n. (1 + 2 * n.0, n.1 + 1)) (numeral d))
    × (numeral (I ∷ d) ≡ option_map (λ n. (2 * n.0, n.1 + 1)) (numeral d))
    × (numeral (F ∷ d) ≡ option_map (λ n. (2 * n.0, n.1 + 1)) (numeral d))
    × (numeral (P ∷ d) ≡ Some (0, 1))
    × (numeral [] ≡ None)
