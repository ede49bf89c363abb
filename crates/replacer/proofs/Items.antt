-- What the items of a template put, one after another.
use Rattle.std.proofs.Common.{◌≡◌, ℕ, ◌+◌, ◌-◌, ◌<◌, ◌≤◌, List, [], ◌++◌, length, drop, get_or, arith, ap, ◌∙◌, length-append, length-drop}
use Rattle.std.proofs.lemmas.List.{drop_more, drop_all}
use Rattle.fuun_base.specs.declared.letters.Base.{Base}
use Rattle.dna_items.specs.declared.items.TplItem.{TplItem}
use Rattle.replacer.specs.Replacement.{put_by, replacement, texts_of, replaced}

-- from an item on: what it puts, and then what the later ones put
pub rest_more : (texts : List (List Base)) (items : List TplItem) (i : ℕ) (item : TplItem) → i < length items → replacement texts (drop i items) ≡ put_by texts (get_or items i item) ++ replacement texts (drop (i + 1) items)
rest_more texts items i item within = ap (replacement texts) (drop_more items i item within)

pub length-rest : (texts : List (List Base)) (items : List TplItem) (i : ℕ) (item : TplItem) → i < length items → length (replacement texts (drop i items)) ≡ length (put_by texts (get_or items i item)) + length (replacement texts (drop (i + 1) items))
length-rest texts items i item within =
    ap length (rest_more texts items i item within) ∙ length-append (put_by texts (get_or items i item)) (replacement texts (drop (i + 1) items))

-- behind the last item nothing is put
pub rest_of_none : (texts : List (List Base)) (items : List TplItem) (i : ℕ) → length items ≤ i → replacement texts (drop i items) ≡ replacement texts []
rest_of_none texts items i past = ap (replacement texts) (drop_all i items past)

pub length-replaced : (d : List Base) (items : List TplItem) (ranges : List (ℕ × ℕ)) (stop : ℕ) → length (replaced d items ranges stop) ≡ length (replacement (texts_of d ranges) items) + (length d - stop)
length-replaced d items ranges stop = omega (arith, length-append (replacement (texts_of d ranges) items) (drop stop d), length-drop stop d)
