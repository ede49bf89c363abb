-- Lines of pieces.
use Rattle.std.proofs.Common.{◌≡◌, ℕ, suc, ◌+◌, ◌^◌, ◌<◌, ◌≤◌, ◌&&◌, false, true≢false, List, [], ◌∷◌, inl, inr, length, max, min, arith, refl, sym, ap, ◌∙◌, length-append}
use Rattle.std.specs.Prelude.{◌||◌, nat_lt}
use Rattle.std.specs.List.{list_all}
use Rattle.std.proofs.lemmas.Bool.{cases_lt, le-ltb, lt-ltb}
use Rattle.fuun_base.specs.declared.letters.Base.{Base}
use Rattle.fuun_base.specs.declared.letters.Base.TheVariants.{I, C, F, P}
use Rattle.fuun_base.specs.Quote.{quote_of}
use Rattle.fuun_base.proofs.QuoteLemmas.{length-quote}
use Rattle.dna_items.specs.Held.{held}
use Rattle.dna_reader.specs.Codes.{pattern_code, pattern_item_code, template_code, template_item_code}
use Rattle.source_items.specs.declared.lines.Line.TheVariants.{Long, Pair, Plain}
use Rattle.source_items.specs.declared.lines.SourceItem.{SourceItem}
use Rattle.source_items.specs.declared.lines.SourceItem.TheVariants.{Fixed, Skip}
use Rattle.source_items.specs.Held.{IsHeldLong}
use Rattle.source_items.specs.Lines.{is_small_item, item_of, line_len, skips_len, pattern_of as valued}
use Rattle.source_items.proofs.HeldLemmas.{length-pair}
use Rattle.source_text.specs.declared.held.Held.{Held}
use Rattle.source_text.specs.declared.measure.Measure.{Measure}
use Rattle.source_text.specs.declared.pieces.Item.{Item}
use Rattle.source_text.specs.declared.pieces.Item.TheVariants.{Base as Literal, Group, Len, Given, Search, Skip as SumSkip, Start, Stop}
use Rattle.source_text.specs.declared.pieces.Piece.{Piece}
use Rattle.source_text.specs.Keeping.{IsHeld}
use Rattle.source_text.specs.Measured.{IsMeasured, are_small_sums, fixed_len, pattern_len, skip_len, sums_len, template_len}
use Rattle.source_text.specs.Pieces.{bases_of, item_size, pattern_item, pattern_of, size, template_item, template_of}
use Rattle.source_text.proofs.UseLemmas.{held_whole}

item_len : (own : ℕ) (behind : List ℕ) (item : SourceItem) → length (pattern_item_code (item_of own behind item)) ≡ fixed_len item + skip_len own behind item
item_len own behind (Fixed item) = omega arith
item_len own behind (Skip sum) = omega arith

pattern_code_len : (own : ℕ) (behind : List ℕ) (x : List Piece) → length (pattern_code (valued own behind (pattern_of x))) ≡ pattern_len x + sums_len own behind x
pattern_code_len own behind [] = refl
pattern_code_len own behind (p ∷ x) =
    omega (arith, item_len own behind (pattern_item p.item), pattern_code_len own behind x, length-append (pattern_item_code (item_of own behind (pattern_item p.item))) (pattern_code (valued own behind (pattern_of x))))

template_code_len : (x : List Piece) → length (template_code (template_of x)) ≡ template_len x
template_code_len [] = refl
template_code_len (p ∷ x) = omega (arith, template_code_len x, length-append (template_item_code (template_item p.item)) (template_code (template_of x)))

pair_len : (own : ℕ) (behind : List ℕ) (x y : List Piece) → line_len own behind (Pair (pattern_of x) (template_of y)) ≡ pattern_len x + sums_len own behind x + template_len y + 6
pair_len own behind x y = omega (arith, length-pair (valued own behind (pattern_of x)) (template_of y), pattern_code_len own behind x, template_code_len y)

small_items : (own : ℕ) (behind : List ℕ) (x : List Piece) → list_all (is_small_item own behind) (pattern_of x) ≡ are_small_sums own behind x
small_items own behind [] = refl
small_items own behind (p ∷ x) = ap (λ b. is_small_item own behind (pattern_item p.item) && b) (small_items own behind x)

-- a pattern's code is no shorter than it counts

quote_size : (b : Base) → 1 ≤ length (quote_of b)
quote_size I = omega arith
quote_size C = omega arith
quote_size F = omega arith
quote_size P = omega arith

item_least : (own : ℕ) (behind : List ℕ) (item : Item) → item_size item ≤ fixed_len (pattern_item item) + skip_len own behind (pattern_item item)
item_least own behind (Literal b) = omega (arith, quote_size b)
item_least own behind (Group n level) = omega arith
item_least own behind (Len n) = omega arith
item_least own behind (Given k) = omega arith
item_least own behind (SumSkip sum) = omega arith
item_least own behind (Search s) = omega (arith, length-quote s)
item_least own behind Start = omega arith
item_least own behind Stop = omega arith

least_size : (own : ℕ) (behind : List ℕ) (x : List Piece) → size x ≤ pattern_len x + sums_len own behind x
least_size own behind [] = omega arith
least_size own behind (p ∷ x) = omega (arith, item_least own behind p.item, least_size own behind x)

least_len : (limit len count n pattern sums template all : ℕ) → len ≡ min (min (min pattern (2 ^ 63) + min template (2 ^ 63)) (2 ^ 63) + 6) (2 ^ 63) → count ≡ min n (2 ^ 63) → n ≤ pattern + sums → limit < max len count
    → all ≡ pattern + sums + template + 6 → limit < all
least_len limit len count n pattern sums template all is counted least past whole = omega (arith, is, counted, least, past, whole)

alike_len : (pattern template len all skips sums : ℕ) → len ≡ min (min (min pattern (2 ^ 63) + min template (2 ^ 63)) (2 ^ 63) + 6) (2 ^ 63) → all ≡ pattern + sums + template + 6 → held skips ≡ held sums
    → held all ≡ held (len + skips)
unfolding held
alike_len pattern template len all skips sums is whole alike = omega arith

pub long_pair : (limit len count : ℕ) (pattern template : Measure) (x y : List Piece) → IsMeasured pattern x → IsMeasured template y → len ≡ min (min (pattern.pattern + template.template) (2 ^ 63) + 6) (2 ^ 63)
    → count ≡ min (size x) (2 ^ 63) → limit < max len count
    → IsHeldLong limit (Pair (pattern_of x) (template_of y)) (Long pattern.skips.items len)
long_pair limit len count pattern template x y first second is counted past =
    let whole : len ≡ min (min (min (pattern_len x) (2 ^ 63) + min (template_len y) (2 ^ 63)) (2 ^ 63) + 6) (2 ^ 63) = omega (arith, is, first.pattern, second.template) in
    record {
      skips = pattern.skips.items;
      len = len;
      is = refl;
      past =
          λ own behind.
          least_len limit len count (size x) (pattern_len x) (sums_len own behind x) (template_len y) (line_len own behind (Pair (pattern_of x) (template_of y))) whole counted (least_size own behind x) past (pair_len own behind x y);
      lens = λ own behind.
          alike_len (pattern_len x) (template_len y) len (line_len own behind (Pair (pattern_of x) (template_of y))) (skips_len own behind pattern.skips.items) (sums_len own behind x) whole (pair_len own behind x y) (first.sums own behind);
      small = λ own behind. small_items own behind x ∙ sym (first.small own behind);
    }

bases_len : (x : List Piece) → length (bases_of x) ≡ length x
bases_len [] = refl
bases_len (p ∷ x) = ap (λ n. suc n) (bases_len x)

plain_alike : (len all : ℕ) → len ≡ min all (2 ^ 63) → held all ≡ held (len + 0)
unfolding held
plain_alike len all is = omega arith

pub long_plain : (limit len : ℕ) (bases : Measure) (x : List Piece) → IsMeasured bases x → len ≡ bases.plain → limit < len → IsHeldLong limit (Plain (bases_of x)) (Long [] len)
long_plain limit len bases x is same past = record {
  skips = [];
  len = len;
  is = refl;
  past = λ own behind. omega (arith, past, same, is.plain, bases_len x);
  lens = λ own behind. plain_alike len (length (bases_of x)) (same ∙ is.plain ∙ ap (λ n. min n (2 ^ 63)) (sym (bases_len x)));
  small = λ own behind. refl;
}

-- pieces that count no more than the limit are kept whole
pub whole_within : (limit : ℕ) (held : Held) (x : List Piece) → limit ≤ 2 ^ 40 → IsHeld limit held x → held.count ≤ limit → held.items.items ≡ x
whole_within limit held x low is within = held_whole limit held x is (omega (arith, low, within, is.counted))

not_first : (limit a b : ℕ) → (nat_lt limit a || nat_lt limit b) ≡ false → a ≤ limit
not_first limit a b none =
    elim (cases_lt limit a) [
      | inl past ↦ absurd (true≢false (sym (ap (λ t. t || nat_lt limit b) (lt-ltb limit a past)) ∙ none))
      | inr within ↦ within
    ]

pub none_past : (limit a b : ℕ) → (nat_lt limit a || nat_lt limit b) ≡ false → (a ≤ limit) × (b ≤ limit)
none_past limit a b none =
    let first : a ≤ limit = not_first limit a b none in
    let other : nat_lt limit b ≡ false = sym (ap (λ t. t || nat_lt limit b) (le-ltb limit a first)) ∙ none in
    (first, not_first limit b 0 (ap (λ t. t || nat_lt limit 0) other ∙ le-ltb limit 0 (omega arith)))
