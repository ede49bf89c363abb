-- The pieces of patterns and templates: how many bases the front of a DNA takes, and what it gives.
use Rattle.std.specs.Prelude.{ℕ, ◌+◌, min, Bool, true, false, Option, Some, None, List, [], ◌∷◌, length, take, drop}
use Rattle.std.specs.Option.{option_map, option_and_then}
use Rattle.fuun_base.specs.declared.letters.Base.{Base}
use Rattle.fuun_base.specs.declared.letters.Base.TheVariants.{I, C, F, P}
use Rattle.fuun_base.specs.Quote.{quote}
use Rattle.dna_items.specs.declared.items.PatItem.{PatItem}
use Rattle.dna_items.specs.declared.items.PatItem.TheVariants.{Base as Literal, Skip, Search, GroupStart, GroupStop}
use Rattle.dna_items.specs.declared.items.TplItem.{TplItem}
use Rattle.dna_items.specs.declared.items.TplItem.TheVariants.{Base as TplLiteral, Group, Len}
use Rattle.dna_reader.specs.Numeral.{numeral}
use Rattle.dna_reader.specs.Constants.{consts}

-- what a piece gives: an item, a command of RNA, or the end
pub data Gives (Item : Type 0) : Type 0 where
  GivesItem : Item → Gives Item
  GivesCommand : List Base → Gives Item
  GivesEnd : Gives Item

-- a piece: how many bases it takes, of those that are there, and what it gives
pub record Piece (Item : Type 0) : Type 0 where
  pub takes : ℕ
  pub gives : Gives Item

-- a piece of so many bases that gives an item
abbrev pub item : {Item : Type 0} → ℕ → Item → Option (Piece Item)
item n x = Some (record { takes = n; gives = GivesItem x })

-- the command that follows III: the next seven bases, or as many as are there
abbrev pub command : {Item : Type 0} → List Base → Option (Piece Item)
command d = Some (record { takes = 3 + length (take 7 d); gives = GivesCommand (take 7 d) })

-- IIC and IIF in a pattern: the end of a group where one is open, else the end of the pattern
abbrev pub group_end : Bool → Option (Piece PatItem)
group_end true = Some (record { takes = 3; gives = GivesItem GroupStop })
group_end false = Some (record { takes = 3; gives = GivesEnd })

-- the piece of a pattern that begins d, where a group is open or none is: none where no row fits
abbrev pub pattern_piece : Bool → List Base → Option (Piece PatItem)
pattern_piece is_open [] = None
pattern_piece is_open (C ∷ d) = item 1 (Literal I)
pattern_piece is_open (F ∷ d) = item 1 (Literal C)
pattern_piece is_open (P ∷ d) = item 1 (Literal F)
pattern_piece is_open (I ∷ []) = None
pattern_piece is_open (I ∷ C ∷ d) = item 2 (Literal P)
pattern_piece is_open (I ∷ P ∷ d) = option_map (λ n. record { takes = 2 + n.1; gives = GivesItem (Skip n.0) }) (numeral d)
pattern_piece is_open (I ∷ F ∷ d) =
    item (2 + min 1 (length d) + length (quote (consts (drop 1 d)))) (Search (consts (drop 1 d)))
pattern_piece is_open (I ∷ I ∷ []) = None
pattern_piece is_open (I ∷ I ∷ P ∷ d) = item 3 GroupStart
pattern_piece is_open (I ∷ I ∷ C ∷ d) = group_end is_open
pattern_piece is_open (I ∷ I ∷ F ∷ d) = group_end is_open
pattern_piece is_open (I ∷ I ∷ I ∷ d) = command d

-- a reference to a group in a template: two numerals, the level and then the group
abbrev pub reference : List Base → Option (Piece TplItem)
reference d =
    option_and_then
    (λ level. option_map (λ n. record { takes = 2 + level.1 + n.1; gives = GivesItem (Group n.0 level.0) }) (numeral (drop level.1 d)))
    (numeral d)

-- the piece of a template that begins d: none where no row fits
abbrev pub template_piece : List Base → Option (Piece TplItem)
template_piece [] = None
template_piece (C ∷ d) = item 1 (TplLiteral I)
template_piece (F ∷ d) = item 1 (TplLiteral C)
template_piece (P ∷ d) = item 1 (TplLiteral F)
template_piece (I ∷ []) = None
template_piece (I ∷ C ∷ d) = item 2 (TplLiteral P)
template_piece (I ∷ F ∷ d) = reference d
template_piece (I ∷ P ∷ d) = reference d
template_piece (I ∷ I ∷ []) = None
template_piece (I ∷ I ∷ C ∷ d) = Some (record { takes = 3; gives = GivesEnd })
template_piece (I ∷ I ∷ F ∷ d) = Some (record { takes = 3; gives = GivesEnd })
template_piece (I ∷ I ∷ P ∷ d) = option_map (λ n. record { takes = 3 + n.1; gives = GivesItem (Len n.0) }) (numeral d)
template_piece (I ∷ I ∷ I ∷ d) = command d
