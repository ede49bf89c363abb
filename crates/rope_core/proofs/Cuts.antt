-- Parts of two lists that are joined.
use Rattle.std.proofs.Common.{◌≡◌, ℕ, ◌+◌, ◌-◌, ◌≤◌, List, ◌++◌, length, take, drop, slice_range, ap, ◌∙◌, arith, length-drop}
use Rattle.std.proofs.Math.Seq.{take-append-add, drop-append-add}
use Rattle.std.proofs.lemmas.List.{drop-append-le}

pub take_past : {A : Type 0} → (n : ℕ) (l r : List A) → length l ≤ n → take n (l ++ r) ≡ l ++ take (n - length l) r
take_past n l r past =
    let is : n ≡ length l + (n - length l) = omega arith in
    ap (λ k. take k (l ++ r)) is ∙ take-append-add l r (n - length l)

pub drop_past : {A : Type 0} → (n : ℕ) (l r : List A) → length l ≤ n → drop n (l ++ r) ≡ drop (n - length l) r
drop_past n l r past =
    let is : n ≡ length l + (n - length l) = omega arith in
    ap (λ k. drop k (l ++ r)) is ∙ drop-append-add l r (n - length l)

pub range_past : {A : Type 0} → (lo hi : ℕ) (l r : List A) → length l ≤ lo → lo ≤ hi → slice_range (l ++ r) lo hi ≡ slice_range r (lo - length l) (hi - length l)
range_past lo hi l r past order =
    let same : hi - lo ≡ (hi - length l) - (lo - length l) = omega arith in
    ap (take (hi - lo)) (drop_past lo l r past) ∙ ap (λ k. take k (drop (lo - length l) r)) same

pub range_over : {A : Type 0} → (lo hi : ℕ) (l r : List A) → lo ≤ length l → length l ≤ hi → slice_range (l ++ r) lo hi ≡ drop lo l ++ take (hi - length l) r
range_over lo hi l r before past =
    let size : length (drop lo l) ≡ length l - lo = length-drop lo l in
    let covered : length (drop lo l) ≤ hi - lo = omega arith in
    let same : (hi - lo) - length (drop lo l) ≡ hi - length l = omega arith in
    ap (take (hi - lo)) (drop-append-le lo l r before) ∙ take_past (hi - lo) (drop lo l) r covered ∙ ap (λ k. drop lo l ++ take k r) same

pub ruleset cuts = (take_past, drop_past, range_past, range_over)
