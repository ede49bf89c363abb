-- Pairs are read, whatever their values are.
use Rattle.std.proofs.Common.{◌≡◌, ℕ, zero, suc, ◌+◌, ◌&&◌, ◌||◌, List, [], ◌∷◌, take, arith, refl, sym, ap, ◌∙◌, drop, subst}
use Rattle.std.proofs.lemmas.List.{drop-drop}
use Rattle.dna_items.specs.Balance.{start_of, stop_of, starts, stops}
use Rattle.dna_reader.specs.Codes.{has_search_before_base, is_base, is_search}
use Rattle.dna_reader.specs.Pairs.{PairStands}
use Rattle.dna_reader.proofs.CodeLemmas.{pair_code_is_read}
use Rattle.source_items.specs.declared.lines.Line.TheVariants.{Pair}
use Rattle.source_items.specs.declared.lines.SourceItem.{SourceItem}
use Rattle.source_items.specs.declared.lines.SourceItem.TheVariants.{Fixed, Skip}
use Rattle.source_items.specs.Lines.{item_of, pattern_of}
use Rattle.source_code.specs.Laws.{PairIsRead, PairIsReadInPlace, ReadableAlike}
use Rattle.source_items.specs.Values.{total}
use Rattle.source_code.specs.Lengths.{dna}
use Rattle.source_code.proofs.LawLemmas.{others_are_behind}

pub pair_is_read : PairIsRead
pair_is_read pattern template later own behind readable = pair_code_is_read (pattern_of own behind pattern) template (dna later behind) readable

pub pair_is_read_in_place : PairIsReadInPlace
pair_is_read_in_place lines lengths index pattern template later own behind are here sizes readable =
    let one : drop 1 (drop index lines) ≡ later = ap (drop 1) here in
    let others : drop 1 (drop index lengths) ≡ behind = ap (drop 1) sizes in
    let first : drop (total (take index lengths)) (dna lines lengths) ≡ dna (Pair pattern template ∷ later) (own ∷ behind) =
    others_are_behind lines lengths index are ∙ ap (λ l. dna l (drop index lengths)) here ∙ ap (dna (Pair pattern template ∷ later)) sizes in
    let next : drop (total (take (index + 1) lengths)) (dna lines lengths) ≡ dna later behind =
    others_are_behind lines lengths (index + 1) are
    ∙ ap (λ l. dna l (drop (index + 1) lengths)) (sym (drop-drop 1 index lines) ∙ one)
    ∙ ap (dna later) (sym (drop-drop 1 index lengths) ∙ others) in
    subst (λ l. PairStands l (pattern_of own behind pattern) template [] (drop (total (take (index + 1) lengths)) (dna lines lengths))) (sym first)
    (subst (λ l. PairStands (dna (Pair pattern template ∷ later) (own ∷ behind)) (pattern_of own behind pattern) template [] l) (sym next)
    (pair_is_read pattern template later own behind readable))

module _ (own other : ℕ) (behind later : List ℕ) where
  start_alike : (item : SourceItem) → start_of (item_of own behind item) ≡ start_of (item_of other later item)
  start_alike (Fixed item) = refl
  start_alike (Skip sum) = refl

  stop_alike : (item : SourceItem) → stop_of (item_of own behind item) ≡ stop_of (item_of other later item)
  stop_alike (Fixed item) = refl
  stop_alike (Skip sum) = refl

  search_alike : (item : SourceItem) → is_search (item_of own behind item) ≡ is_search (item_of other later item)
  search_alike (Fixed item) = refl
  search_alike (Skip sum) = refl

  base_alike : (item : SourceItem) → is_base (item_of own behind item) ≡ is_base (item_of other later item)
  base_alike (Fixed item) = refl
  base_alike (Skip sum) = refl

  starts_alike : (n : ℕ) (items : List SourceItem) → starts (take n (pattern_of own behind items)) ≡ starts (take n (pattern_of other later items))
  starts_alike zero items = refl
  starts_alike (suc n) [] = refl
  starts_alike (suc n) (item ∷ items) = omega (arith, start_alike item, starts_alike n items)

  stops_alike : (n : ℕ) (items : List SourceItem) → stops (take n (pattern_of own behind items)) ≡ stops (take n (pattern_of other later items))
  stops_alike zero items = refl
  stops_alike (suc n) [] = refl
  stops_alike (suc n) (item ∷ items) = omega (arith, stop_alike item, stops_alike n items)

  all_starts_alike : (items : List SourceItem) → starts (pattern_of own behind items) ≡ starts (pattern_of other later items)
  all_starts_alike [] = refl
  all_starts_alike (item ∷ items) = omega (arith, start_alike item, all_starts_alike items)

  all_stops_alike : (items : List SourceItem) → stops (pattern_of own behind items) ≡ stops (pattern_of other later items)
  all_stops_alike [] = refl
  all_stops_alike (item ∷ items) = omega (arith, stop_alike item, all_stops_alike items)

  apart_alike : (items : List SourceItem) → has_search_before_base (pattern_of own behind items) ≡ has_search_before_base (pattern_of other later items)
  apart_alike [] = refl
  apart_alike (x ∷ []) = refl
  apart_alike (x ∷ y ∷ items) =
      ap (λ b. (b && is_base (item_of own behind y)) || has_search_before_base (pattern_of own behind (y ∷ items))) (search_alike x)
      ∙ ap (λ b. (is_search (item_of other later x) && b) || has_search_before_base (pattern_of own behind (y ∷ items))) (base_alike y)
      ∙ ap (λ b. (is_search (item_of other later x) && is_base (item_of other later y)) || b) (apart_alike (y ∷ items))

pub readable_alike : ReadableAlike
readable_alike pattern own other behind later readable = record {
  balanced = record {
    even = omega (arith, readable.balanced.even, all_starts_alike own other behind later pattern, all_stops_alike own other behind later pattern);
    fronts = λ n. omega (arith, readable.balanced.fronts n, starts_alike own other behind later n pattern, stops_alike own other behind later n pattern);
  };
  apart = sym (apart_alike own other behind later pattern) ∙ readable.apart;
}
