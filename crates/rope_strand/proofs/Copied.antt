-- Bases that are copied from two sides.
use Rattle.std.proofs.Common.{◌≡◌, ℕ, ◌+◌, ◌-◌, ◌≤◌, List, [], ◌++◌, length, take, drop, arith, sym, ap, ◌∙◌, append_assoc, append-nil, length-append, length-drop}
use Rattle.std.proofs.Math.Seq.{take-append-add}
use Rattle.std.proofs.lemmas.List.{drop-append-le, drop-drop, take_all, take_at, drop_at}
use Rattle.rope_core.proofs.Cuts.{drop_past}

-- from a place in the right side on
pub rest_past : {A : Type 0} → (place seam : ℕ) (l r : List A) → seam ≡ length l → seam ≤ place → drop place (l ++ r) ≡ drop (place - seam) r
rest_past place seam l r here past = rw here (drop_past place l r (omega arith))

-- all of the left side from a place on, and as much as fits of the right one
pub copied_both : {A : Type 0} → (l r old mid new tail : List A) (a b place : ℕ) → place ≤ length l → a ≡ length l - place → a ≤ length old → mid ≡ take a (drop place l) ++ drop a old → new ≡ take b r ++ drop b (take (length mid - a) (drop a mid)) → tail ≡ [] → take a mid ++ (new ++ tail) ≡ take (a + b) (drop place (l ++ r)) ++ drop (a + b) old
copied_both l r old mid new tail a b place within all room first second none =
    let left = drop place l in
    let size : length left ≡ a = omega (arith, length-drop place l) in
    let whole : take a left ≡ left = take_all a left (omega arith) in
    let is : mid ≡ left ++ drop a old = first ∙ ap (λ x. x ++ drop a old) whole in
    let front : take a mid ≡ left = ap (take a) is ∙ take_at left (drop a old) a size in
    let rest : drop a mid ≡ drop a old = ap (drop a) is ∙ drop_at left (drop a old) a size in
    let long : length mid ≡ a + length (drop a old) = ap length is ∙ omega (arith, length-append left (drop a old)) in
    let part : take (length mid - a) (drop a mid) ≡ drop a old = ap (take (length mid - a)) rest ∙ take_all (length mid - a) (drop a old) (omega arith) in
    let past : drop b (drop a old) ≡ drop (a + b) old = drop-drop b a old in
    let copied : new ≡ take b r ++ drop (a + b) old = second ∙ ap (λ x. take b r ++ drop b x) part ∙ ap (λ x. take b r ++ x) past in
    let cut : drop place (l ++ r) ≡ left ++ r = drop-append-le place l r within in
    let taken : take (a + b) (left ++ r) ≡ left ++ take b r = ap (λ n. take (n + b) (left ++ r)) (sym size) ∙ take-append-add left r b in
    ap (λ x. x ++ (new ++ tail)) front
    ∙ ap (λ x. left ++ (new ++ x)) none
    ∙ ap (λ x. left ++ x) (append-nil new)
    ∙ ap (λ x. left ++ x) copied
    ∙ sym (append_assoc left (take b r) (drop (a + b) old))
    ∙ ap (λ x. x ++ drop (a + b) old) (sym taken)
    ∙ ap (λ x. take (a + b) x ++ drop (a + b) old) (sym cut)
