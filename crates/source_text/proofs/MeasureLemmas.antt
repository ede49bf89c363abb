-- How long the codes of pieces are, an operation at a time.
use Rattle.std.proofs.Common.{◌≡◌, ℕ, zero, suc, ◌+◌, ◌*◌, ◌^◌, ◌<◌, ◌≤◌, ◌&&◌, ◌||◌, inl, inr, Bool, true, false, List, [], ◌∷◌, ◌++◌, length, map, min, arith, refl, sym, ap, ◌∙◌, append-nil, length-append, true≢false}
use Rattle.std.specs.Prelude.{◌==◌}
use Rattle.std.specs.List.{list_all}
use Rattle.std.proofs.lemmas.Bool.{and_parts, cases_eq, eq-eqb, ne_eqb}
use Rattle.std.proofs.lemmas.List.Folds.{list_all-append}
use Rattle.fuun_base.specs.Quote.{quote, quote_of}
use Rattle.dna_items.specs.Held.{held}
use Rattle.dna_items.specs.declared.items.PatItem.TheVariants.{Skip as PatSkip}
use Rattle.dna_reader.specs.Codes.{pattern_item_code, template_item_code}
use Rattle.source_items.specs.declared.lines.CountedSkip.{CountedSkip}
use Rattle.source_items.specs.Lines.{is_small, is_small_item, is_small_skip, skips_len}
use Rattle.source_items.specs.Values.{sum_value}
use Rattle.source_items.proofs.HeldLemmas.{Alike, alike_product, alike_sum, held-held}
use Rattle.source_text.specs.declared.measure.Measure.{Measure}
use Rattle.source_text.specs.declared.pieces.Item.{Item}
use Rattle.source_text.specs.declared.pieces.Item.TheVariants.{Base as Literal, Group, Len, Given, Skip, Search, Start, Stop}
use Rattle.source_text.specs.declared.pieces.Piece.{Piece}
use Rattle.source_text.specs.Measured.{IsMeasured, are_small_sums, fixed_len, pattern_len, repeated_skip, skip_len, skips_in, sums_len, template_len}
use Rattle.source_text.specs.Pieces.{are_bases, base_item, bases_of, is_base, pattern_item, piece_at, placed, template_item, times}
use Rattle.source_text.proofs.PieceLemmas.{placed_len, product_held}

-- one behind the other

pattern_both : (x y : List Piece) → pattern_len (x ++ y) ≡ pattern_len x + pattern_len y
pattern_both [] y = omega arith
pattern_both (p ∷ x) y = omega (arith, pattern_both x y)

template_both : (x y : List Piece) → template_len (x ++ y) ≡ template_len x + template_len y
template_both [] y = omega arith
template_both (p ∷ x) y = omega (arith, template_both x y)

sums_both : (own : ℕ) (behind : List ℕ) (x y : List Piece) → sums_len own behind (x ++ y) ≡ sums_len own behind x + sums_len own behind y
sums_both own behind [] y = omega arith
sums_both own behind (p ∷ x) y = omega (arith, sums_both own behind x y)

small_both : (own : ℕ) (behind : List ℕ) (x y : List Piece) → are_small_sums own behind (x ++ y) ≡ (are_small_sums own behind x && are_small_sums own behind y)
small_both own behind x y = list_all-append (λ piece. is_small_item own behind (pattern_item piece.item)) x y

skips_both : (own : ℕ) (behind : List ℕ) (a b : List CountedSkip) → skips_len own behind (a ++ b) ≡ skips_len own behind a + skips_len own behind b
skips_both own behind [] b = omega arith
skips_both own behind (skip ∷ a) b = omega (arith, skips_both own behind a b)

pub measured_both : (a b m : Measure) (x y : List Piece) → IsMeasured a x → IsMeasured b y → m.pattern ≡ min (a.pattern + b.pattern) (2 ^ 63) → m.template ≡ min (a.template + b.template) (2 ^ 63)
    → m.plain ≡ min (a.plain + b.plain) (2 ^ 63) → m.skips.items ≡ a.skips.items ++ b.skips.items → IsMeasured m (x ++ y)
measured_both a b m x y first second pattern template plain skips = record {
  pattern = omega (arith, pattern, first.pattern, second.pattern, pattern_both x y);
  template = omega (arith, template, first.template, second.template, template_both x y);
  plain = omega (arith, plain, first.plain, second.plain, length-append x y);
  sums = λ own behind.
      ap (λ l. held (skips_len own behind l)) skips ∙ ap held (skips_both own behind a.skips.items b.skips.items)
      ∙ alike_sum (skips_len own behind a.skips.items) (sums_len own behind x) (skips_len own behind b.skips.items) (sums_len own behind y) (first.sums own behind) (second.sums own behind)
      ∙ ap held (sym (sums_both own behind x y));
  small = λ own behind.
      ap (list_all (is_small_skip own behind)) skips ∙ list_all-append (is_small_skip own behind) a.skips.items b.skips.items
      ∙ ap (λ s. s && list_all (is_small_skip own behind) b.skips.items) (first.small own behind) ∙ ap (λ s. are_small_sums own behind x && s) (second.small own behind)
      ∙ sym (small_both own behind x y);
}

-- one piece

one_sum : (own : ℕ) (behind : List ℕ) (item : Item) → skips_len own behind (skips_in item) ≡ skip_len own behind (pattern_item item) + 0
one_sum own behind (Literal b) = refl
one_sum own behind (Group n level) = refl
one_sum own behind (Len n) = refl
one_sum own behind (Given k) = refl
one_sum own behind (Skip sum) = omega arith
one_sum own behind (Search s) = refl
one_sum own behind Start = refl
one_sum own behind Stop = refl

one_small : (own : ℕ) (behind : List ℕ) (item : Item) → list_all (is_small_skip own behind) (skips_in item) ≡ (is_small_item own behind (pattern_item item) && true)
one_small own behind (Literal b) = refl
one_small own behind (Group n level) = refl
one_small own behind (Len n) = refl
one_small own behind (Given k) = refl
one_small own behind (Skip sum) = refl
one_small own behind (Search s) = refl
one_small own behind Start = refl
one_small own behind Stop = refl

pub measured_one : (m : Measure) (item : Item) (at : ℕ) → m.pattern ≡ held (fixed_len (pattern_item item)) → m.template ≡ length (template_item_code (template_item item)) → m.template ≤ 132 → m.plain ≡ 1
    → m.skips.items ≡ skips_in item → IsMeasured m (piece_at at item ∷ [])
unfolding held
measured_one m item at pattern template most plain skips = record {
  pattern = omega (arith, pattern);
  template = omega (arith, template, most);
  plain = omega (arith, plain);
  sums = λ own behind. ap (λ l. held (skips_len own behind l)) skips ∙ ap held (one_sum own behind item);
  small = λ own behind. ap (list_all (is_small_skip own behind)) skips ∙ one_small own behind item;
}

-- the search for bases

base_len : (item : Item) → is_base (piece_at 0 item) ≡ true → fixed_len (pattern_item item) ≡ length (quote_of (base_item item))
base_len (Literal b) is = refl
base_len (Group n level) is = absurd (true≢false (sym is))
base_len (Len n) is = absurd (true≢false (sym is))
base_len (Given k) is = absurd (true≢false (sym is))
base_len (Skip sum) is = absurd (true≢false (sym is))
base_len (Search s) is = absurd (true≢false (sym is))
base_len Start is = absurd (true≢false (sym is))
base_len Stop is = absurd (true≢false (sym is))

quoted_len : (x : List Piece) → are_bases x ≡ true → pattern_len x ≡ length (quote (bases_of x))
quoted_len [] are = refl
quoted_len (p ∷ x) are =
    let both = and_parts (is_base p) (are_bases x) are in
    omega (arith, base_len p.item both.0, quoted_len x both.1, length-append (quote_of (base_item p.item)) (quote (bases_of x)))

pub measured_search : (found m : Measure) (x : List Piece) (at : ℕ) → are_bases x ≡ true → IsMeasured found x → m.pattern ≡ min (found.pattern + 3) (2 ^ 63) → m.template ≡ 1 → m.plain ≡ 1 → m.skips.items ≡ []
    → IsMeasured m (piece_at at (Search (bases_of x)) ∷ [])
measured_search found m x at are is pattern template plain skips = record {
  pattern = omega (arith, pattern, is.pattern, quoted_len x are);
  template = omega (arith, template);
  plain = omega (arith, plain);
  sums = λ own behind. ap (λ l. held (skips_len own behind l)) skips;
  small = λ own behind. ap (list_all (is_small_skip own behind)) skips;
}

-- pieces so many times

times_pattern : (n : ℕ) (x : List Piece) → pattern_len (times n x) ≡ n * pattern_len x
unfolding times
times_pattern zero x = omega arith
times_pattern (suc n) x = pattern_both x (times n x) ∙ omega (arith, times_pattern n x)

times_template : (n : ℕ) (x : List Piece) → template_len (times n x) ≡ n * template_len x
unfolding times
times_template zero x = omega arith
times_template (suc n) x = template_both x (times n x) ∙ omega (arith, times_template n x)

times_plain : (n : ℕ) (x : List Piece) → length (times n x) ≡ n * length x
unfolding times
times_plain zero x = omega arith
times_plain (suc n) x = length-append x (times n x) ∙ omega (arith, times_plain n x)

times_sums : (own : ℕ) (behind : List ℕ) (n : ℕ) (x : List Piece) → sums_len own behind (times n x) ≡ n * sums_len own behind x
unfolding times
times_sums own behind zero x = omega arith
times_sums own behind (suc n) x = sums_both own behind x (times n x) ∙ omega (arith, times_sums own behind n x)

same_twice : (b : Bool) → (b && b) ≡ b
same_twice true = refl
same_twice false = refl

times_small : (own : ℕ) (behind : List ℕ) (n : ℕ) (x : List Piece) → are_small_sums own behind (times (suc n) x) ≡ are_small_sums own behind x
unfolding times
times_small own behind zero x = ap (are_small_sums own behind) (append-nil x)
times_small own behind (suc n) x =
    small_both own behind x (times (suc n) x) ∙ ap (λ b. are_small_sums own behind x && b) (times_small own behind n x) ∙ same_twice (are_small_sums own behind x)

grouped : (c n len : ℕ) → c * n * len ≡ n * (c * len)
grouped c n len = omega arith

spread : (n a b : ℕ) → n * a + n * b ≡ n * (a + b)
spread n a b = omega arith

skips_times : (own : ℕ) (behind : List ℕ) (n : ℕ) (skips : List CountedSkip) → Alike (skips_len own behind (map (repeated_skip n) skips)) (n * skips_len own behind skips)
unfolding held
skips_times own behind n [] = let none : 0 ≡ n * 0 = omega arith in ap held none
skips_times own behind n (skip ∷ skips) =
    let len : ℕ = length (pattern_item_code (PatSkip (sum_value own behind skip.sum))) in
    let first : Alike (held (skip.count * n) * len) (skip.count * n * len) = alike_product (held (skip.count * n)) (skip.count * n) len len (held-held (skip.count * n)) refl in
    let one : Alike (held (skip.count * n) * len) (n * (skip.count * len)) = first ∙ ap held (grouped skip.count n len) in
    alike_sum (held (skip.count * n) * len) (n * (skip.count * len)) (skips_len own behind (map (repeated_skip n) skips)) (n * skips_len own behind skips) one (skips_times own behind n skips)
    ∙ ap held (spread n (skip.count * len) (skips_len own behind skips))

factor_none : (c n : ℕ) → min (c * suc n) (2 ^ 63) ≡ 0 → c ≡ 0
factor_none zero n none = refl
factor_none (suc c) n none = absurd (omega (arith, none))

none_left : (c n : ℕ) → (min (c * suc n) (2 ^ 63) == 0) ≡ (c == 0)
none_left c n =
    elim (cases_eq c 0) [
      | inl none ↦
          let product : min (c * suc n) (2 ^ 63) ≡ 0 = ap (λ k. min (k * suc n) (2 ^ 63)) none ∙ omega arith in
          eq-eqb (min (c * suc n) (2 ^ 63)) 0 product ∙ sym (eq-eqb c 0 none)
      | inr some ↦ ne_eqb (min (c * suc n) (2 ^ 63)) 0 (λ none. some (factor_none c n none)) ∙ sym (ne_eqb c 0 some)
    ]

small_times : (own : ℕ) (behind : List ℕ) (n : ℕ) (skips : List CountedSkip) → list_all (is_small_skip own behind) (map (repeated_skip (suc n)) skips) ≡ list_all (is_small_skip own behind) skips
small_times own behind n [] = refl
small_times own behind n (skip ∷ skips) =
    ap (λ z. (z || is_small own behind skip.sum) && list_all (is_small_skip own behind) (map (repeated_skip (suc n)) skips)) (none_left skip.count n)
    ∙ ap (λ b. is_small_skip own behind skip && b) (small_times own behind n skips)

pub measured_times : (part m : Measure) (n : ℕ) (x : List Piece) → 0 < n → IsMeasured part x → m.pattern ≡ min (part.pattern * n) (2 ^ 63) → m.template ≡ min (part.template * n) (2 ^ 63)
    → m.plain ≡ min (part.plain * n) (2 ^ 63) → m.skips.items ≡ map (repeated_skip n) part.skips.items → IsMeasured m (times n x)
measured_times part m zero x some is pattern template plain skips = absurd (omega (arith, some))
measured_times part m (suc n) x some is pattern template plain skips = record {
  pattern = pattern ∙ product_held part.pattern (pattern_len x) (suc n) is.pattern ∙ ap (λ k. min k (2 ^ 63)) (sym (times_pattern (suc n) x));
  template = template ∙ product_held part.template (template_len x) (suc n) is.template ∙ ap (λ k. min k (2 ^ 63)) (sym (times_template (suc n) x));
  plain = plain ∙ product_held part.plain (length x) (suc n) is.plain ∙ ap (λ k. min k (2 ^ 63)) (sym (times_plain (suc n) x));
  sums = λ own behind.
      ap (λ l. held (skips_len own behind l)) skips ∙ skips_times own behind (suc n) part.skips.items
      ∙ alike_product (suc n) (suc n) (skips_len own behind part.skips.items) (sums_len own behind x) refl (is.sums own behind) ∙ ap held (sym (times_sums own behind (suc n) x));
  small = λ own behind. ap (list_all (is_small_skip own behind)) skips ∙ small_times own behind n part.skips.items ∙ is.small own behind ∙ sym (times_small own behind n x);
}

pub times_once : (x : List Piece) → times 1 x ≡ x
unfolding times
times_once x = append-nil x

-- pieces at another place

placed_pattern : (at : ℕ) (x : List Piece) → pattern_len (map (placed at) x) ≡ pattern_len x
placed_pattern at [] = refl
placed_pattern at (p ∷ x) = ap (λ n. fixed_len (pattern_item p.item) + n) (placed_pattern at x)

placed_template : (at : ℕ) (x : List Piece) → template_len (map (placed at) x) ≡ template_len x
placed_template at [] = refl
placed_template at (p ∷ x) = ap (λ n. length (template_item_code (template_item p.item)) + n) (placed_template at x)

placed_sums : (own : ℕ) (behind : List ℕ) (at : ℕ) (x : List Piece) → sums_len own behind (map (placed at) x) ≡ sums_len own behind x
placed_sums own behind at [] = refl
placed_sums own behind at (p ∷ x) = ap (λ n. skip_len own behind (pattern_item p.item) + n) (placed_sums own behind at x)

placed_small : (own : ℕ) (behind : List ℕ) (at : ℕ) (x : List Piece) → are_small_sums own behind (map (placed at) x) ≡ are_small_sums own behind x
placed_small own behind at [] = refl
placed_small own behind at (p ∷ x) = ap (λ b. is_small_item own behind (pattern_item p.item) && b) (placed_small own behind at x)

pub measured_placed : (m : Measure) (at : ℕ) (x : List Piece) → IsMeasured m x → IsMeasured m (map (placed at) x)
measured_placed m at x is = record {
  pattern = is.pattern ∙ ap (λ n. min n (2 ^ 63)) (sym (placed_pattern at x));
  template = is.template ∙ ap (λ n. min n (2 ^ 63)) (sym (placed_template at x));
  plain = is.plain ∙ ap (λ n. min n (2 ^ 63)) (sym (placed_len at x));
  sums = λ own behind. is.sums own behind ∙ ap held (sym (placed_sums own behind at x));
  small = λ own behind. is.small own behind ∙ sym (placed_small own behind at x);
}
