-- Ranges of a list.
use Rattle.std.proofs.Common.{◌≡◌, ℕ, ◌+◌, ◌-◌, ◌<◌, ◌≤◌, Some, List, [], ◌∷◌, ◌++◌, length, take, drop, arith, ap, ◌∙◌}
use Rattle.std.specs.Prelude.{slice_get, slice_range}
use Rattle.std.proofs.Math.Seq.{take-add}
use Rattle.std.proofs.lemmas.List.{drop-drop, drop_more}
use Rattle.std.proofs.lemmas.Option.{slice_get_within, get_or_from_slice_get}

pub range_join : {X : Type 0} (xs : List X) (lo mid hi : ℕ) → lo ≤ mid → mid ≤ hi → slice_range xs lo hi ≡ slice_range xs lo mid ++ slice_range xs mid hi
range_join xs lo mid hi a b =
    let size : hi - lo ≡ (mid - lo) + (hi - mid) = omega arith in
    let at : lo + (mid - lo) ≡ mid = omega arith in
    let rest : drop (mid - lo) (drop lo xs) ≡ drop mid xs = drop-drop (mid - lo) lo xs ∙ ap (λ n. drop n xs) at in
    ap (λ n. take n (drop lo xs)) size ∙ take-add (mid - lo) (hi - mid) (drop lo xs) ∙ ap (λ ys. take (mid - lo) (drop lo xs) ++ take (hi - mid) ys) rest

pub range_none : {X : Type 0} (xs : List X) (k : ℕ) → slice_range xs k k ≡ []
range_none xs k =
    let size : k - k ≡ 0 = omega arith in
    ap (λ n. take n (drop k xs)) size

pub range_one : {X : Type 0} (xs : List X) (k : ℕ) (x : X) → slice_get xs k ≡ Some x → slice_range xs k (k + 1) ≡ x ∷ []
range_one xs k x is =
    let within : k < length xs = slice_get_within xs k x is in
    let size : k + 1 - k ≡ 1 = omega arith in
    let here : drop k xs ≡ x ∷ drop (k + 1) xs = drop_more xs k x within ∙ ap (λ y. y ∷ drop (k + 1) xs) (get_or_from_slice_get xs k x x is) in
    ap (λ n. take n (drop k xs)) size ∙ ap (take 1) here
