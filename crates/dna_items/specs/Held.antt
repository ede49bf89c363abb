-- Items as they are kept: each number is held at 2^63.
use Rattle.std.specs.Prelude.{ℕ, ◌^◌, min, List, map}
use Rattle.dna_items.specs.declared.items.PatItem.{PatItem}
use Rattle.dna_items.specs.declared.items.PatItem.TheVariants.{Base, Skip, Search, GroupStart, GroupStop}
use Rattle.dna_items.specs.declared.items.TplItem.{TplItem}
use Rattle.dna_items.specs.declared.items.TplItem.TheVariants.{Base as TplBase, Group, Len}

-- a number as it is held
unfoldable pub held : ℕ → ℕ
held n = min n (2 ^ 63)

-- an item of a pattern with its number held
abbrev pub held_pattern_item : PatItem → PatItem
held_pattern_item (Base b) = Base b
held_pattern_item (Skip n) = Skip (held n)
held_pattern_item (Search s) = Search s
held_pattern_item GroupStart = GroupStart
held_pattern_item GroupStop = GroupStop

-- an item of a template with its numbers held
abbrev pub held_template_item : TplItem → TplItem
held_template_item (TplBase b) = TplBase b
held_template_item (Group n level) = Group (held n) (held level)
held_template_item (Len n) = Len (held n)

-- a pattern with its numbers held
abbrev pub held_pattern : List PatItem → List PatItem
held_pattern items = map held_pattern_item items

-- a template with its numbers held
abbrev pub held_template : List TplItem → List TplItem
held_template items = map held_template_item items
