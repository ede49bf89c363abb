-- What the items of a template cost in steps.
use Rattle.std.specs.Prelude.{ℕ, ◌+◌, ◌*◌, ◌/◌, List, [], ◌∷◌}
use Rattle.fuun_base.specs.declared.letters.Base.{Base}
use Rattle.dna_items.specs.declared.items.TplItem.{TplItem}
use Rattle.replacer.specs.Weight.{quoted_by}

-- the most that an item may cost that writes so many bases anew, on strands of at most this height
abbrev pub put_cost : ℕ → ℕ → ℕ
put_cost height quoted = 128 * (height + 2) + 4 * (quoted / 512)

abbrev pub item_cost : ℕ → List (List Base) → TplItem → ℕ
item_cost height texts item = put_cost height (quoted_by texts item)

-- what the items may cost together
abbrev pub cost : ℕ → List (List Base) → List TplItem → ℕ
cost height texts [] = 0
cost height texts (item ∷ items) = item_cost height texts item + cost height texts items
