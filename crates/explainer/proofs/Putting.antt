-- What templates put on cells, item by item.
use Rattle.std.proofs.Common.{◌≡◌, ℕ, zero, suc, ◌+◌, ◌-◌, ◌<◌, ◌≤◌, Bool, true, false, not, Some, List, [], ◌∷◌, ◌++◌, length, get_or, take, drop, map, arith, refl, sym, ap, subst, ◌∙◌, append-nil}
use Rattle.std.specs.Prelude.{◌||◌}
use Rattle.std.specs.List.{flat_map}
use Rattle.std.proofs.lemmas.List.{length-append, take_more, take_all, drop_more, take-append-drop}
use Rattle.std.proofs.lemmas.Grind.{flat_map-append}
use Rattle.fuun_base.specs.Quote.{protect}
use Rattle.dna_items.specs.declared.items.TplItem.{TplItem}
use Rattle.dna_items.specs.declared.items.TplItem.TheVariants.{Group}
use Rattle.sym_strand.specs.declared.cells.Cell.{Cell}
use Rattle.sym_strand.specs.declared.cells.Cell.TheVariants.{Known}
use Rattle.sym_strand.specs.Cells.{all_known, known_front}
use Rattle.explainer.specs.Replacement.{text_of, quotes_target, depends_on_target, put_by}
use Rattle.explainer.specs.Making.{PutsWhere, ReplacesWithin}

-- whether an item quotes the target

pub quotes_none : (texts : List (List Cell)) (n level : ℕ) → level ≡ 0 → quotes_target texts (Group n level) ≡ false
quotes_none texts n level is = ap (λ l. quotes_target texts (Group n l)) is

pub quotes_above : (texts : List (List Cell)) (n level : ℕ) → 0 < level → quotes_target texts (Group n level) ≡ not (all_known (text_of texts n))
quotes_above texts n zero above = absurd (omega arith)
quotes_above texts n (suc level) above = refl

any_more : (texts : List (List Cell)) (items : List TplItem) (k : ℕ) (item : TplItem) → k < length items
    → depends_on_target texts (drop k items) ≡ (quotes_target texts (get_or items k item) || depends_on_target texts (drop (k + 1) items))
any_more texts items k item inside = ap (depends_on_target texts) (drop_more items k item inside)

pub depends_here : (texts : List (List Cell)) (items : List TplItem) (k : ℕ) (item : TplItem) → k < length items → quotes_target texts (get_or items k item) ≡ true → depends_on_target texts (drop k items) ≡ true
depends_here texts items k item inside is = any_more texts items k item inside ∙ ap (λ b. b || depends_on_target texts (drop (k + 1) items)) is

pub depends_behind : (texts : List (List Cell)) (items : List TplItem) (k : ℕ) (item : TplItem) → k < length items → quotes_target texts (get_or items k item) ≡ false
    → depends_on_target texts (drop k items) ≡ depends_on_target texts (drop (k + 1) items)
depends_behind texts items k item inside is = any_more texts items k item inside ∙ ap (λ b. b || depends_on_target texts (drop (k + 1) items)) is

or_none : (b c : Bool) → (b || c) ≡ false → (b ≡ false) × (c ≡ false)
or_none false c e = (refl, e)
or_none true c e = cc

pub none_quotes : (texts : List (List Cell)) (items : List TplItem) (k : ℕ) (item : TplItem) → depends_on_target texts items ≡ false → k < length items → quotes_target texts (get_or items k item) ≡ false
none_quotes texts [] k item none inside = absurd (omega arith)
none_quotes texts (x ∷ items) zero item none inside = (or_none (quotes_target texts x) (depends_on_target texts items) none).0
none_quotes texts (x ∷ items) (suc k) item none inside = none_quotes texts items k item (or_none (quotes_target texts x) (depends_on_target texts items) none).1 (omega arith)

-- what an item puts

pub put_plain : (texts : List (List Cell)) (n level : ℕ) → level ≡ 0 → put_by texts (Group n level) ≡ text_of texts n
put_plain texts n level is = ap (λ l. put_by texts (Group n l)) is

pub put_quoted : (texts : List (List Cell)) (n level : ℕ) → 0 < level → put_by texts (Group n level) ≡ map Known (protect level (known_front (text_of texts n)))
put_quoted texts n zero above = absurd (omega arith)
put_quoted texts n (suc level) above = refl

pub puts_alike : (fits : Bool) (room : ℕ) (old new : List Cell) (texts texts' : List (List Cell)) (item : TplItem) → texts ≡ texts' → PutsWhere fits room old new (put_by texts item) → PutsWhere fits room old new (put_by texts' item)
puts_alike fits room old new texts texts' item same x = subst (λ t. PutsWhere fits room old new (put_by t item)) same x

-- items so far

pub puts_more : (texts : List (List Cell)) (items : List TplItem) (k : ℕ) (item : TplItem) → k < length items
    → flat_map (put_by texts) (take (k + 1) items) ≡ flat_map (put_by texts) (take k items) ++ put_by texts (get_or items k item)
puts_more texts items k item inside =
    ap (flat_map (put_by texts)) (take_more items k item inside)
    ∙ flat_map-append (put_by texts) (take k items) (get_or items k item ∷ [])
    ∙ ap (λ l. flat_map (put_by texts) (take k items) ++ l) (append-nil (put_by texts (get_or items k item)))

puts_most : (texts : List (List Cell)) (items : List TplItem) (k : ℕ) → length (flat_map (put_by texts) (take k items)) ≤ length (flat_map (put_by texts) items)
puts_most texts items k =
    let whole = sym (flat_map-append (put_by texts) (take k items) (drop k items)) ∙ ap (flat_map (put_by texts)) (take-append-drop k items) in
    omega (arith, ap length whole, length-append (flat_map (put_by texts) (take k items)) (flat_map (put_by texts) (drop k items)))

-- one item does not fit: nor do all
pub too_many : (texts : List (List Cell)) (items : List TplItem) (k limit room : ℕ) (item : TplItem) (cells tail : List Cell) → k < length items
    → cells ≡ flat_map (put_by texts) (take k items) → room ≡ limit - length tail - length cells → room < length (put_by texts (get_or items k item))
    → limit < length (flat_map (put_by texts) items ++ tail)
too_many texts items k limit room item cells tail inside so_far is past =
    omega (
      arith,
      puts_most texts items (k + 1),
      ap length (puts_more texts items k item inside),
      length-append (flat_map (put_by texts) (take k items)) (put_by texts (get_or items k item)),
      ap length so_far,
      length-append (flat_map (put_by texts) items) tail,
    )

pub all_put : (texts : List (List Cell)) (items : List TplItem) (k limit : ℕ) (cells tail next : List Cell) → length items ≤ k → cells ≡ flat_map (put_by texts) (take k items)
    → length tail ≤ limit → length cells ≤ limit - length tail → next ≡ cells ++ tail → ReplacesWithin texts items tail limit (Some next)
all_put texts items k limit cells tail next all so_far within room is =
    let whole : next ≡ flat_map (put_by texts) items ++ tail = is ∙ ap (λ l. l ++ tail) (so_far ∙ ap (flat_map (put_by texts)) (take_all k items all)) in
    (whole, omega (arith, ap length is, length-append cells tail))

pub puts_not : (fits : Bool) (room : ℕ) (old new text : List Cell) → fits ≡ false → PutsWhere fits room old new text → room < length text
puts_not false room old new text e x = x
puts_not true room old new text e x = cc
