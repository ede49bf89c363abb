-- A reading: the DNA is cut from its front into pieces of a table, up to the first end or to where no row fits.
use Rattle.std.specs.Prelude.{◌≡◌, ℕ, ◌<◌, Bool, true, false, Option, Some, None, List, [], ◌∷◌, ◌++◌, length, nat_lt}
use Rattle.fuun_base.specs.declared.letters.Base.{Base}
use Rattle.dna_reader.specs.Piece.{Gives, GivesItem, GivesCommand, GivesEnd, Piece}

-- a table of pieces: the piece that begins a DNA, where a group is open or none is, and the groups open after an item
pub record Table (Item : Type 0) : Type 0 where
  pub piece_of : Bool → List Base → Option (Piece Item)
  pub opened_by : ℕ → Item → ℕ

-- a cut of the DNA: some bases, and what the table gives for them
pub record Cut (Item : Type 0) : Type 0 where
  pub bases : List Base
  pub gives : Gives Item

-- the bases of the cuts, and then the rest
abbrev pub joined : {Item : Type 0} → List (Cut Item) → List Base → List Base
joined [] rest = rest
joined (cut ∷ cuts) rest = cut.bases ++ joined cuts rest

-- how many groups are open after what was given
abbrev pub open_after : {Item : Type 0} → Table Item → ℕ → Gives Item → ℕ
open_after table groups (GivesItem x) = table.opened_by groups x
open_after table groups (GivesCommand c) = groups
open_after table groups GivesEnd = groups

-- whether this gives the end
abbrev pub is_end : {Item : Type 0} → Gives Item → Bool
is_end (GivesItem x) = false
is_end (GivesCommand c) = false
is_end GivesEnd = true

-- the end stands nowhere but at the last cut
abbrev pub EndsHere : {Item : Type 0} → Gives Item → List (Cut Item) → Type 0
EndsHere (GivesItem x) cuts = Unit {0}
EndsHere (GivesCommand c) cuts = Unit {0}
EndsHere GivesEnd cuts = cuts ≡ []

-- whether the cuts come to an end
abbrev pub is_ended : {Item : Type 0} → List (Cut Item) → Bool
is_ended [] = false
is_ended (cut ∷ []) = is_end cut.gives
is_ended (cut ∷ next ∷ cuts) = is_ended (next ∷ cuts)

-- a cut before others, of one base at least, is what the table takes from the DNA that starts there
pub record IsCutBy {Item : Type 0} (table : Table Item) (groups : ℕ) (cut : Cut Item) (cuts : List (Cut Item)) (rest : List Base) : Type 0 where
  pub some : 0 < length cut.bases
  pub takes : table.piece_of (nat_lt 0 groups) (joined (cut ∷ cuts) rest) ≡ Some (record { takes = length cut.bases; gives = cut.gives })
  pub last : EndsHere cut.gives cuts

-- each of the cuts is so, from the first on
abbrev pub AreCutBy : {Item : Type 0} → Table Item → ℕ → List (Cut Item) → List Base → Type 0
AreCutBy table groups [] rest = Unit {0}
AreCutBy table groups (cut ∷ cuts) rest = IsCutBy table groups cut cuts rest × AreCutBy table (open_after table groups cut.gives) cuts rest

-- how many groups are open after the cuts
abbrev pub open_at_last : {Item : Type 0} → Table Item → ℕ → List (Cut Item) → ℕ
open_at_last table groups [] = groups
open_at_last table groups (cut ∷ cuts) = open_at_last table (open_after table groups cut.gives) cuts

-- the cutting of d: it stops after the first end, or at the first rest that has no piece
pub record IsCutting {Item : Type 0} (table : Table Item) (groups : ℕ) (d : List Base) (cuts : List (Cut Item)) (rest : List Base) : Type 0 where
  pub whole : joined cuts rest ≡ d
  pub cut : AreCutBy table groups cuts rest
  pub stops : is_ended cuts ≡ false → table.piece_of (nat_lt 0 (open_at_last table groups cuts)) rest ≡ None

-- the item that was given, if it was one
abbrev pub item_of : {Item : Type 0} → Gives Item → List Item
item_of (GivesItem x) = x ∷ []
item_of (GivesCommand c) = []
item_of GivesEnd = []

-- the command that was given, if it was one
abbrev pub command_of : {Item : Type 0} → Gives Item → List (List Base)
command_of (GivesItem x) = []
command_of (GivesCommand c) = c ∷ []
command_of GivesEnd = []

-- the items of the cuts, in their order
abbrev pub items_of : {Item : Type 0} → List (Cut Item) → List Item
items_of [] = []
items_of (cut ∷ cuts) = item_of cut.gives ++ items_of cuts

-- the commands of the cuts, in their order
abbrev pub commands_of : {Item : Type 0} → List (Cut Item) → List (List Base)
commands_of [] = []
commands_of (cut ∷ cuts) = command_of cut.gives ++ commands_of cuts

-- what a reading comes to: items and RNA and the rest behind the end, or the RNA alone
pub data Reading (Item : Type 0) : Type 0 where
  Read : List Item → List (List Base) → List Base → Reading Item
  RanOut : List (List Base) → Reading Item

-- what a cutting comes to
abbrev pub reading_of : {Item : Type 0} → Bool → List (Cut Item) → List Base → Reading Item
reading_of true cuts rest = Read (items_of cuts) (commands_of cuts) rest
reading_of false cuts rest = RanOut (commands_of cuts)

-- d, where so many groups are open, is read by the table as this
abbrev pub ReadsFrom : {Item : Type 0} → Table Item → ℕ → List Base → Reading Item → Type 0
ReadsFrom {Item} table groups d reading =
    (cuts : List (Cut Item)) × (rest : List Base) × IsCutting table groups d cuts rest × (reading ≡ reading_of (is_ended cuts) cuts rest)

-- the RNA of a reading
abbrev pub rna_in : {Item : Type 0} → Reading Item → List (List Base)
rna_in (Read items rna rest) = rna
rna_in (RanOut rna) = rna
