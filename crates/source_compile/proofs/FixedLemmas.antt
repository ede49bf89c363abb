-- Lines all of whose sums are numbers as they are written.
use Rattle.std.proofs.Common.{◌≡◌, ℕ, ◌+◌, ◌*◌, ◌^◌, ◌≤◌, true, Ok, List, [], ◌∷◌, ◌++◌, length, map, arith, refl, sym, ap, ◌∙◌, length-append}
use Rattle.std.specs.List.{AllByRecursion}
use Rattle.std.proofs.lemmas.Bool.{lt-ltb}
use Rattle.dna_items.specs.declared.items.PatItem.{PatItem}
use Rattle.dna_items.specs.declared.items.PatItem.TheVariants as pat
use Rattle.dna_items.specs.declared.items.TplItem.{TplItem}
use Rattle.dna_reader.specs.Codes.{pair_code}
use Rattle.source_items.specs.declared.lines.Factor.TheVariants.{Number}
use Rattle.source_items.specs.declared.lines.Line.{Line}
use Rattle.source_items.specs.declared.lines.Line.TheVariants.{Pair as PairLine}
use Rattle.source_items.specs.declared.lines.SourceItem.{SourceItem}
use Rattle.source_items.specs.declared.lines.SourceItem.TheVariants.{Fixed, Skip}
use Rattle.source_items.specs.Lines.{are_small, is_small_item, item_of, line_len, pattern_of}
use Rattle.source_items.specs.Values.{total}
use Rattle.source_code.specs.Answers.{IsAnswer}
use Rattle.source_code.specs.Lengths.{AreLengths, AreSmall, IsLength, dna}
use Rattle.assembler.specs.Answers.{Pair, pairs_code}
use Rattle.assembler.specs.Laws.{IsSmallPair}
use Rattle.assembler.specs.Pairs.{HasSmallSkip}

-- an item as a source has it
abbrev pub source_item : PatItem → SourceItem
source_item (pat.Base b) = Fixed (pat.Base b)
source_item (pat.Skip n) = Skip ((Number n ∷ []) ∷ [])
source_item (pat.Search s) = Fixed (pat.Search s)
source_item pat.GroupStart = Fixed pat.GroupStart
source_item pat.GroupStop = Fixed pat.GroupStop

-- a pair as a line
abbrev pub source_line : Pair → Line
source_line pair = PairLine (map source_item pair.0) pair.1

abbrev pub source_lines : List Pair → List Line
source_lines pairs = map source_line pairs

one_number : (n : ℕ) → n * 1 + 0 ≡ n
one_number n = omega arith

same_item : (own : ℕ) (behind : List ℕ) (item : PatItem) → item_of own behind (source_item item) ≡ item
same_item own behind (pat.Base b) = refl
same_item own behind (pat.Skip n) = ap (λ k. pat.Skip k) (one_number n)
same_item own behind (pat.Search s) = refl
same_item own behind pat.GroupStart = refl
same_item own behind pat.GroupStop = refl

same_pattern : (own : ℕ) (behind : List ℕ) (items : List PatItem) → pattern_of own behind (map source_item items) ≡ items
same_pattern own behind [] = refl
same_pattern own behind (item ∷ items) = ap (λ i. i ∷ pattern_of own behind (map source_item items)) (same_item own behind item) ∙ ap (λ l. item ∷ l) (same_pattern own behind items)

small_item : (own : ℕ) (behind : List ℕ) (item : PatItem) → HasSmallSkip item → is_small_item own behind (source_item item) ≡ true
small_item own behind (pat.Base b) small = refl
small_item own behind (pat.Skip n) small = lt-ltb (n * 1 + 0) (2 ^ 63) (omega (arith, small))
small_item own behind (pat.Search s) small = refl
small_item own behind pat.GroupStart small = refl
small_item own behind pat.GroupStop small = refl

small_items : (own : ℕ) (behind : List ℕ) (pattern : List PatItem) (template : List TplItem) → AllByRecursion HasSmallSkip pattern → are_small own behind (PairLine (map source_item pattern) template) ≡ true
small_items own behind [] template small = refl
small_items own behind (item ∷ pattern) template small = rw (small_item own behind item small.0) (small_items own behind pattern template small.1)

-- how long the code of a pair is
abbrev pair_len : Pair → ℕ
pair_len pair = length (pair_code pair.0 pair.1)

same_len : (own : ℕ) (behind : List ℕ) (pair : Pair) → line_len own behind (source_line pair) ≡ pair_len pair
same_len own behind pair = ap (λ p. length (pair_code p pair.1)) (same_pattern own behind pair.0)

own_length : (behind : List ℕ) (pair : Pair) → IsLength behind (source_line pair) (pair_len pair)
own_length behind pair = record {
  here = sym (same_len (pair_len pair) behind pair);
  least = λ n is. omega (arith, is, same_len n behind pair);
}

abbrev lens : List Pair → List ℕ
lens pairs = map pair_len pairs

all_lengths : (pairs : List Pair) → AreLengths (source_lines pairs) (lens pairs)
all_lengths [] = tt
all_lengths (pair ∷ pairs) = (own_length (lens pairs) pair, all_lengths pairs)

all_small : (pairs : List Pair) → AllByRecursion IsSmallPair pairs → AreSmall (source_lines pairs) (lens pairs)
all_small [] small = tt
all_small (pair ∷ pairs) small = (small_items (pair_len pair) (lens pairs) pair.0 pair.1 small.0.0, all_small pairs small.1)

same_dna : (pairs : List Pair) → dna (source_lines pairs) (lens pairs) ≡ pairs_code pairs
same_dna [] = refl
same_dna (pair ∷ pairs) =
    ap (λ p. pair_code p pair.1 ++ dna (source_lines pairs) (lens pairs)) (same_pattern (pair_len pair) (lens pairs) pair.0)
    ∙ ap (λ l. pair_code pair.0 pair.1 ++ l) (same_dna pairs)

total_len : (pairs : List Pair) → total (lens pairs) ≡ length (pairs_code pairs)
total_len [] = refl
total_len (pair ∷ pairs) = omega (arith, total_len pairs, length-append (pair_code pair.0 pair.1) (pairs_code pairs))

-- such lines are settled to the codes of their pairs
pub pairs_settled : (pairs : List Pair) (limit : ℕ) → AllByRecursion IsSmallPair pairs → length (pairs_code pairs) ≤ limit → IsAnswer (source_lines pairs) limit (Ok (pairs_code pairs))
pairs_settled pairs limit small within = (
  lens pairs,
  record { are = all_lengths pairs; small = all_small pairs small },
  omega (arith, within, total_len pairs),
  sym (same_dna pairs),
)
