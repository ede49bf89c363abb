-- A search directly before a base, item by item.
use Rattle.std.proofs.Common.{◌≡◌, ℕ, suc, ◌+◌, ◌<◌, ◌&&◌, ◌||◌, Bool, true, false, List, [], ◌∷◌, length, drop, get_or, refl, sym, ap, ◌∙◌, add-one, drop-cons}
use Rattle.dna_items.specs.declared.items.PatItem.{PatItem}
use Rattle.dna_reader.specs.Codes.{has_search_before_base, is_base, is_search}

abbrev starts_with_base : List PatItem → Bool
starts_with_base [] = false
starts_with_base (x ∷ items) = is_base x

-- a search stands directly before a base, perhaps one that stood just before these items
abbrev pub has_search_behind : Bool → List PatItem → Bool
has_search_behind behind items = (behind && starts_with_base items) || has_search_before_base items

or_false : (a : Bool) → (a && false) || false ≡ false
or_false true = refl
or_false false = refl

search_first : (x : PatItem) (items : List PatItem) → has_search_before_base (x ∷ items) ≡ has_search_behind (is_search x) items
search_first x [] = sym (or_false (is_search x))
search_first x (y ∷ items) = refl

next_item : (items : List PatItem) (i : ℕ) (x : PatItem) → i < length items → x ≡ get_or items i x → drop i items ≡ x ∷ drop (i + 1) items
next_item items i x within is = rw (add-one, drop-cons items i x within) (ap (λ y. y ∷ drop (suc i) items) (sym is))

pub search_more : (items : List PatItem) (i : ℕ) (x : PatItem) (behind : Bool) → i < length items → x ≡ get_or items i x → (behind && is_base x) ≡ false → has_search_behind behind (drop i items) ≡ has_search_before_base items
    → has_search_behind (is_search x) (drop (i + 1) items) ≡ has_search_before_base items
search_more items i x behind within is none before =
    sym (search_first x (drop (i + 1) items)) ∙ sym (ap (λ b. b || has_search_before_base (x ∷ drop (i + 1) items)) none) ∙ ap (has_search_behind behind) (sym (next_item items i x within is)) ∙ before

pub search_found : (items : List PatItem) (i : ℕ) (x : PatItem) (behind : Bool) → i < length items → x ≡ get_or items i x → behind ≡ true → is_base x ≡ true → has_search_behind behind (drop i items) ≡ has_search_before_base items
    → true ≡ has_search_before_base items
search_found items i x behind within is search base before =
    let both : (behind && is_base x) ≡ true = rw search base in
    sym (ap (λ b. b || has_search_before_base (x ∷ drop (i + 1) items)) both) ∙ ap (has_search_behind behind) (sym (next_item items i x within is)) ∙ before
