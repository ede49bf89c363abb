-- How many steps an attempt may make.
use Rattle.std.specs.Prelude.{ℕ, zero, suc, ◌+◌, ◌*◌, ◌/◌, ◌-◌, List, [], ◌∷◌, length}
use Rattle.fuun_base.specs.declared.letters.Base.{Base}
use Rattle.fuun_base.specs.Quote.{protect}
use Rattle.dna_items.specs.declared.items.TplItem.{TplItem}
use Rattle.dna_items.specs.declared.items.TplItem.TheVariants.{Base as Literal, Group, Len}
use Rattle.replacer.specs.Replacement.{text_of}

-- how many bases are written anew where a text is put at a level: none at level 0, where it is shared
abbrev pub quoted_at : ℕ → List Base → ℕ
quoted_at zero text = 0
quoted_at (suc level) text = length (protect (suc level) text)

-- how many an item of a template writes so
abbrev pub quoted_by : List (List Base) → TplItem → ℕ
quoted_by texts (Literal b) = 0
quoted_by texts (Group n level) = quoted_at level (text_of texts n)
quoted_by texts (Len n) = 0

-- how many all of them write
abbrev pub quoted_bases : List (List Base) → List TplItem → ℕ
quoted_bases texts [] = 0
quoted_bases texts (item ∷ items) = quoted_by texts item + quoted_bases texts items

-- the weight of an attempt: by the items of its template, the bases that they quote, and the height of its strands
abbrev pub weight : ℕ → ℕ → ℕ → ℕ
weight items quoted height = 128 * (items + 2) * (height + 2) + 4 * (quoted / 512 + 1)

-- the weight less what one cut may cost
abbrev pub weight_but_a_cut : ℕ → ℕ → ℕ → ℕ
weight_but_a_cut items quoted height = weight items quoted height - 64 * (height + 1)
