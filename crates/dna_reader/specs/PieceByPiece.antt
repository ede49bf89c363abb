-- What was done when a piece was read and kept, and what was done so far.
use Rattle.std.specs.Prelude.{◌≡◌, ℕ, ◌+◌, ◌≤◌, ◌⊎◌, Bool, not, Some, List, [], ◌∷◌, ◌++◌, length, drop, map, nat_lt}
use Rattle.fuun_base.specs.declared.letters.Base.{Base}
use Rattle.dna_reader.specs.Piece.{GivesCommand, Piece}
use Rattle.dna_reader.specs.Reading.{Table, open_after, is_end, item_of, command_of, Reading, Read, RanOut, ReadsFrom}

-- a reading, with items and commands in front of it
abbrev pub prefixed : {Item : Type 0} → List Item → List (List Base) → Reading Item → Reading Item
prefixed items rna (Read more after rest) = Read (items ++ more) (rna ++ after) rest
prefixed items rna (RanOut after) = RanOut (rna ++ after)

-- a piece was read where so many groups are open: its item is behind the items, with its numbers held, and its command was taken
pub record PieceIsKept {Taker Item : Type 0} (table : Table Item) (held : Item → Item) (follows : Taker → List (List Base) → Taker → Type 0)
    (d : List Base) (place next groups opened : ℕ) (items longer : List Item) (old new : Taker) (is_more : Bool) : Type 0 where
  pub piece : Piece Item
  pub is : table.piece_of (nat_lt 0 groups) (drop place d) ≡ Some piece
  pub more : is_more ≡ not (is_end piece.gives)
  pub behind : next ≡ place + piece.takes
  pub opens : opened ≡ open_after table groups piece.gives
  pub keeps : longer ≡ items ++ map held (item_of piece.gives)
  pub taken : follows old (command_of piece.gives) new

-- nothing was taken, or a part of the command that stands at a place
abbrev pub StopsAtPiece : {Taker Item : Type 0} → Table Item → (Taker → List (List Base) → Taker → Type 0) → (Taker → List (List Base) → Taker → Type 0) → List Base → ℕ → ℕ → Taker → Taker → Type 0
StopsAtPiece table follows within d place groups old new =
    follows old [] new
    ⊎ ((n : ℕ) × (c : List Base) × (table.piece_of (nat_lt 0 groups) (drop place d) ≡ Some (record { takes = n; gives = GivesCommand c })) × within old (c ∷ []) new)

-- from a start up to a place, items and commands were read so far: each reading from here on, behind them, is a reading of all
pub record ReadSoFar {Taker Item : Type 0} (table : Table Item) (held : Item → Item) (follows : Taker → List (List Base) → Taker → Type 0)
    (d : List Base) (start place groups : ℕ) (items : List Item) (old new : Taker) : Type 0 where
  pub read : List Item
  pub rna : List (List Base)
  pub kept : items ≡ map held read
  pub taken : follows old rna new
  pub few : start + length rna ≤ place
  pub opened : groups ≤ place
  pub goes_on : (reading : Reading Item) → ReadsFrom table groups (drop place d) reading → ReadsFrom table 0 (drop start d) (prefixed read rna reading)
