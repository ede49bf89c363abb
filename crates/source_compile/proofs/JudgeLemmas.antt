-- A pattern that some DNA has is not refused.
use Rattle.std.proofs.Common.{◌≡◌, ℕ, suc, ◌+◌, ◌-◌, ◌≤◌, ◌&&◌, ◌||◌, if◌then◌else◌, Bool, true, false, Option, None, List, [], ◌∷◌, length, map, take, arith, refl, ap, ◌∙◌, true≢false}
use Rattle.std.proofs.lemmas.Bool.{eq-eqb, ne_eqb}
use Rattle.dna_items.specs.Balance.{start_of, stop_of, starts, stops}
use Rattle.dna_items.specs.declared.items.PatItem.{PatItem}
use Rattle.dna_items.specs.declared.items.PatItem.TheVariants as pat
use Rattle.dna_items.specs.declared.items.TplItem.{TplItem}
use Rattle.dna_items.specs.declared.items.TplItem.TheVariants as tpl
use Rattle.dna_reader.specs.Codes.{IsReadable, has_search_before_base, is_base, is_search}
use Rattle.listing.specs.Texts.{pattern_item_text, template_item_text}
use Rattle.source_text.specs.Judging.{behind_piece, no_code, no_code_within, refuses}
use Rattle.source_text.specs.Judging.{is_search as is_search_piece}
use Rattle.source_text.specs.Pieces.{pattern_item, pattern_of, template_item, template_of}
use Rattle.source_text.specs.Reading.{behind, number}
use Rattle.source_text.specs.Sequences.{level_part, skip_part}
use Rattle.source_text.specs.Sums.{factor}
use Rattle.source_compile.proofs.FixedLemmas.{source_item}
use Rattle.source_compile.proofs.PartLemmas.{letters_of}
use Rattle.source_compile.proofs.Spelling.{pattern_piece, pieces_of, template_piece}
use Rattle.source_items.specs.declared.lines.SourceItem.TheVariants.{Fixed}

-- the items close the groups that are open
abbrev Closes : ℕ → List PatItem → Type 0
Closes groups items = (groups + starts items ≡ stops items) × ((n : ℕ) → stops (take n items) ≤ groups + starts (take n items))

-- a base stands directly behind a search, perhaps behind one before the items
abbrev clashes : Bool → List PatItem → Bool
clashes search [] = false
clashes search (x ∷ items) = (search && is_base x) || clashes (is_search x) items

clashes_behind : (x : PatItem) (items : List PatItem) → clashes (is_search x) items ≡ has_search_before_base (x ∷ items)
clashes_behind x [] = refl
clashes_behind x (y ∷ items) = ap (λ b. (is_search x && is_base y) || b) (clashes_behind y items)

all_clashes : (items : List PatItem) → clashes false items ≡ has_search_before_base items
all_clashes [] = refl
all_clashes (x ∷ items) = clashes_behind x items

second_none : (a b : Bool) → a || b ≡ false → b ≡ false
second_none true b is = absurd (true≢false is)
second_none false b is = is

closes_more : (groups : ℕ) (x : PatItem) (items : List PatItem) → Closes groups (x ∷ items) → Closes (groups + start_of x - stop_of x) items
closes_more groups x items c = let first : stop_of x + 0 ≤ groups + (start_of x + 0) = c.1 1 in (omega (arith, c.0, first), λ n. omega (arith, first, c.1 (suc n)))

-- a piece of such a pattern, where it is judged

not_refused : (groups : ℕ) (search : Bool) (x : PatItem) (items : List PatItem) → Closes groups (x ∷ items) → clashes search (x ∷ items) ≡ false → refuses groups search (pattern_piece x) ≡ false
unfolding skip_part factor
not_refused groups true (pat.Base b) items c apart = absurd (true≢false apart)
not_refused groups false (pat.Base b) items c apart = refl
not_refused groups search (pat.Skip n) items c apart = refl
not_refused groups search (pat.Search s) items c apart = refl
not_refused groups search pat.GroupStart items c apart = refl
not_refused groups search pat.GroupStop items c apart = ne_eqb groups 0 (λ none. let first : 1 ≤ groups + 0 = c.1 1 in omega (arith, none, first))

groups_behind : (groups : ℕ) (x : PatItem) → behind_piece groups (pattern_piece x) ≡ groups + start_of x - stop_of x
unfolding skip_part factor
groups_behind groups (pat.Base b) = omega arith
groups_behind groups (pat.Skip n) = omega arith
groups_behind groups (pat.Search s) = omega arith
groups_behind groups pat.GroupStart = omega arith
groups_behind groups pat.GroupStop = omega arith

search_behind : (x : PatItem) → is_search_piece (pattern_piece x) ≡ is_search x
unfolding skip_part factor
search_behind (pat.Base b) = refl
search_behind (pat.Skip n) = refl
search_behind (pat.Search s) = refl
search_behind pat.GroupStart = refl
search_behind pat.GroupStop = refl

all_served : (arrow groups : ℕ) (search : Bool) (at : ℕ) (items : List PatItem) → Closes groups items → clashes search items ≡ false
    → no_code arrow groups search (pieces_of pattern_item_text pattern_piece at items) ≡ None
unfolding no_code
all_served arrow groups search at [] c apart = rw (eq-eqb groups 0 (omega (arith, c.0))) refl
all_served arrow groups search at (x ∷ items) c apart =
    rw (not_refused groups search x items c apart, groups_behind groups x, search_behind x)
    (all_served arrow (groups + start_of x - stop_of x) (is_search x) (at + length (pattern_item_text x)) items (closes_more groups x items c)
    (second_none (search && is_base x) (clashes (is_search x) items) apart))

none_within : (past : Bool) (found : Option ℕ) → found ≡ None → (if past then None else found) ≡ None
none_within true found none = refl
none_within false found none = none

-- no piece of a readable pattern is refused
pub readable_served : (limit arrow at : ℕ) (items : List PatItem) → IsReadable items → no_code_within limit arrow (pieces_of pattern_item_text pattern_piece at items) ≡ None
readable_served limit arrow at items readable =
    none_within _ (no_code arrow 0 false (pieces_of pattern_item_text pattern_piece at items)) (all_served arrow 0 false at items
    (omega (arith, readable.balanced.even), λ n. omega (arith, readable.balanced.fronts n)) (all_clashes items ∙ readable.apart))

-- the items of such pieces

one_item : (x : PatItem) → pattern_item (pattern_piece x) ≡ source_item x
unfolding skip_part factor
one_item (pat.Base b) = refl
one_item (pat.Skip n) = refl
one_item (pat.Search s) = ap (λ l. Fixed (pat.Search l)) (letters_of 0 s)
one_item pat.GroupStart = refl
one_item pat.GroupStop = refl

pub all_items : (at : ℕ) (items : List PatItem) → pattern_of (pieces_of pattern_item_text pattern_piece at items) ≡ map source_item items
all_items at [] = refl
all_items at (x ∷ items) =
    let next : ℕ = at + length (pattern_item_text x) in
    ap (λ i. i ∷ pattern_of (pieces_of pattern_item_text pattern_piece next items)) (one_item x) ∙ ap (λ l. source_item x ∷ l) (all_items next items)

one_put : (x : TplItem) → template_item (template_piece x) ≡ x
unfolding number behind level_part
one_put (tpl.Base b) = refl
one_put (tpl.Group n level) = refl
one_put (tpl.Len n) = refl

pub all_puts : (at : ℕ) (items : List TplItem) → template_of (pieces_of template_item_text template_piece at items) ≡ items
all_puts at [] = refl
all_puts at (x ∷ items) =
    let next : ℕ = at + length (template_item_text x) in
    ap (λ i. i ∷ template_of (pieces_of template_item_text template_piece next items)) (one_put x) ∙ ap (λ l. x ∷ l) (all_puts next items)
