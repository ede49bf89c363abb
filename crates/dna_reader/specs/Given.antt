-- The pieces that are read, and what readers have done when one of them was taken.
use Rattle.std.specs.Prelude.{◌≡◌, ℕ, ◌+◌, Bool, true, false, Option, Some, List, drop}
use Rattle.dna_items.specs.declared.items.PatItem.TheVariants.{GroupStop}
use Rattle.fuun_base.specs.declared.letters.Base.{Base}
use Rattle.dna_items.specs.declared.items.PatItem.{PatItem}
use Rattle.dna_items.specs.declared.items.TplItem.{TplItem}
use Rattle.dna_reader.specs.Piece.{Gives, GivesItem, GivesCommand, GivesEnd, Piece}
use Rattle.dna_reader.specs.declared.pieces.PatternPiece.{PatternPiece}
use Rattle.dna_reader.specs.declared.pieces.PatternPiece.TheVariants.{Item as PatternItem, Command as PatternCommand, End as PatternEnd}
use Rattle.dna_reader.specs.declared.pieces.TemplatePiece.{TemplatePiece}
use Rattle.dna_reader.specs.declared.pieces.TemplatePiece.TheVariants.{Item as TemplateItem, Command as TemplateCommand, End as TemplateEnd}

-- what a piece that was read gives
abbrev pub pattern_gives : PatternPiece → Gives PatItem
pattern_gives (PatternItem x) = GivesItem x
pattern_gives (PatternCommand c) = GivesCommand c
pattern_gives PatternEnd = GivesEnd

abbrev pub template_gives : TemplatePiece → Gives TplItem
template_gives (TemplateItem x) = GivesItem x
template_gives (TemplateCommand c) = GivesCommand c
template_gives TemplateEnd = GivesEnd

-- what IIC and IIF give in a pattern
abbrev pub end_gives : Bool → Gives PatItem
end_gives true = GivesItem GroupStop
end_gives false = GivesEnd

-- what is given, with the numbers of the item held
abbrev pub held_gives : {Item : Type 0} → (Item → Item) → Gives Item → Gives Item
held_gives held (GivesItem x) = GivesItem (held x)
held_gives held (GivesCommand c) = GivesCommand c
held_gives held GivesEnd = GivesEnd

-- a piece was read at a place: its numbers are held, and the next place is behind it
pub record PieceIsRead {Item : Type 0} (piece_of : List Base → Option (Piece Item)) (held : Item → Item) (d : List Base) (place : ℕ) (given : Gives Item) (next : ℕ) : Type 0 where
  pub piece : Piece Item
  pub is : piece_of (drop place d) ≡ Some piece
  pub gives : given ≡ held_gives held piece.gives
  pub behind : next ≡ place + piece.takes
