-- Totals of lengths.
use Rattle.std.proofs.Common.{◌≡◌, ℕ, suc, ◌+◌, ◌-◌, ◌*◌, ◌^◌, ◌<◌, ◌≤◌, List, [], ◌∷◌, ◌++◌, length, take, drop, get_or, inl, inr, arith, refl, sym, ap, ◌∙◌, length-append, length-drop}
use Rattle.std.specs.Prelude.{reverse}
use Rattle.std.proofs.lemmas.List.{reverse-append, length-reverse, take-append-drop, take_all, get_or_append_left, get_or_push, get_or_past, take-append-le}
use Rattle.std.proofs.lemmas.Bool.{cases_lt}
use Rattle.std.proofs.Math.Seq.{take-append_seam}
use Rattle.source_items.specs.Values.{total}
use Rattle.source_code.specs.Totals.{AreTotals}

pub total-append : (a b : List ℕ) → total (a ++ b) ≡ total a + total b
total-append [] b = omega arith
total-append (x ∷ a) b = omega (arith, total-append a b)

pub total-reverse : (a : List ℕ) → total (reverse a) ≡ total a
total-reverse [] = refl
total-reverse (x ∷ a) = omega (arith, ap total (reverse-append (x ∷ []) a), total-append (reverse a) (x ∷ []), total-reverse a)

-- the lines behind the nearest ones are those that stand first where the order is turned round
pub total-beyond : (l : List ℕ) (count : ℕ) → total (take (length l - count) l) + total (take count (reverse l)) ≡ total l
total-beyond l count =
    let far : List ℕ = take (length l - count) l in
    let near : List ℕ = drop (length l - count) l in
    let whole : far ++ near ≡ l = take-append-drop (length l - count) l in
    let turned : reverse l ≡ reverse near ++ reverse far = ap reverse (sym whole) ∙ reverse-append far near in
    let sum : total far + total near ≡ total l = sym (total-append far near) ∙ ap total whole in
    let front : total (take count (reverse l)) ≡ total near =
    elim (cases_lt count (length l)) [
      | inl few ↦
          let size : length (reverse near) ≡ count = omega (arith, few, length-reverse near, length-drop (length l - count) l) in
          rw turned (ap (λ k. total (take k (reverse near ++ reverse far))) (sym size) ∙ ap total (take-append_seam (reverse near) (reverse far)) ∙ total-reverse near)
      | inr many ↦
          let none : length l - count ≡ 0 = omega (arith, many) in
          let all : take count (reverse l) ≡ reverse l = take_all count (reverse l) (omega (arith, many, length-reverse l)) in
          ap total all ∙ total-reverse l ∙ rw none refl
    ] in
    omega (arith, sum, front)

pub total-most : (l : List ℕ) (most : ℕ) → ((k : ℕ) → get_or l k 0 ≤ most) → total l ≤ length l * most
total-most [] most each = omega arith
total-most (x ∷ l) most each =
    let first : x ≤ most = each 0 in
    let rest : total l ≤ length l * most = total-most l most (λ k. each (suc k)) in
    omega (arith, first, rest)

pub totals_more : (lengths totals : List ℕ) (len sum : ℕ) → AreTotals lengths totals → len ≤ 2 ^ 63 → sum ≡ total lengths + len → AreTotals (lengths ++ len ∷ []) (totals ++ sum ∷ [])
totals_more lengths totals len sum are most is =
    let all : List ℕ = lengths ++ len ∷ [] in
    let size : length all ≡ length lengths + 1 = length-append lengths (len ∷ []) in
    record {
      many = omega (arith, size, length-append totals (sum ∷ []), are.many);
      sums = λ k within. elim (cases_lt k (length lengths)) [
        | inl before ↦
            get_or_append_left totals (sum ∷ []) 0 k (omega (arith, before, are.many)) ∙ are.sums k before
            ∙ ap total (sym (take-append-le (k + 1) lengths (len ∷ []) (omega (arith, before))))
        | inr last ↦
            get_or_push totals sum 0 k (omega (arith, last, within, size, are.many)) ∙ is
            ∙ omega (arith, total-append lengths (len ∷ []), ap total (take_all (k + 1) all (omega (arith, last, size))))
      ];
      held = λ k. elim (cases_lt k (length lengths)) [
        | inl before ↦ let e = get_or_append_left lengths (len ∷ []) 0 k before in omega (arith, e, are.held k)
        | inr after ↦ elim (cases_lt k (length all)) [
          | inl last ↦ let e = get_or_push lengths len 0 k (omega (arith, last, after, size)) in omega (arith, e, most)
          | inr past ↦ let e = get_or_past all k 0 past in omega (arith, e)
        ]
      ];
    }

-- the last total is that of all lengths
pub totals_last : (lengths totals : List ℕ) → AreTotals lengths totals → 0 < length totals → get_or totals (length totals - 1) 0 ≡ total (reverse lengths)
totals_last lengths totals are some =
    let last : ℕ = length totals - 1 in
    are.sums last (omega (arith, some, are.many)) ∙ ap total (take_all (last + 1) lengths (omega (arith, some, are.many))) ∙ sym (total-reverse lengths)

pub totals_none : (lengths totals : List ℕ) → AreTotals lengths totals → length totals ≡ 0 → total (reverse lengths) ≡ 0
totals_none lengths totals are none =
    total-reverse lengths ∙ ap total (sym (take_all 0 lengths (omega (arith, none, are.many))))

pub totals_most : (lengths totals : List ℕ) → AreTotals lengths totals → total (reverse lengths) ≤ length totals * 2 ^ 63
totals_most lengths totals are = omega (arith, total-reverse lengths, total-most lengths (2 ^ 63) are.held, are.many)

-- the total of the lines behind the nearest ones
pub totals_beyond : (lengths totals : List ℕ) (count : ℕ) → AreTotals lengths totals → count < length totals
    → get_or totals (length totals - count - 1) 0 + total (take count (reverse lengths)) ≡ total (reverse lengths)
totals_beyond lengths totals count are few =
    let place : length totals - count - 1 + 1 ≡ length lengths - count = omega (arith, few, are.many) in
    let far : get_or totals (length totals - count - 1) 0 ≡ total (take (length lengths - count) lengths) =
    are.sums (length totals - count - 1) (omega (arith, few, are.many)) ∙ ap (λ n. total (take n lengths)) place in
    omega (arith, far, total-beyond lengths count, total-reverse lengths)
