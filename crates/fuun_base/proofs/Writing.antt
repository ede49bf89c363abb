-- Steps of the loops over a command's places.
use Rattle.std.proofs.Common.{◌≡◌, ℕ, ◌+◌, ◌<◌, ◌≤◌, List, [], ◌∷◌, ◌++◌, length, take, drop, map, set, get_or, arith, refl, ap, ◌∙◌, add-one, append_assoc, drop-cons}
use Rattle.std.proofs.Math.Seq.{set-append_seam}
use Rattle.std.proofs.lemmas.List.{take_more, length-map, length-take-le, map-append}

-- writing what the next item gives, after what the items before it gave
pub written_more : {X : Type 0} (f : X → ℕ) (xs : List X) (old out : List ℕ) (i : ℕ) (d : X) → i < length xs → length xs ≤ length old → out ≡ map f (take i xs) ++ drop i old → set out i (f (get_or xs i d)) ≡ map f (take (i + 1) xs) ++ drop (i + 1) old
written_more f xs old out i d within room before =
    let front : List ℕ = map f (take i xs) in
    let inside : i < length old = omega arith in
    let count : length front ≡ i = length-map (take i xs) f ∙ length-take-le i xs (omega arith) in
    let rest : drop i old ≡ get_or old i 0 ∷ drop (i + 1) old = rw (add-one, drop-cons old i 0 inside) refl in
    let was : out ≡ front ++ get_or old i 0 ∷ drop (i + 1) old = before ∙ ap (λ r. front ++ r) rest in
    let wrote : set (front ++ get_or old i 0 ∷ drop (i + 1) old) (length front) (f (get_or xs i d)) ≡ front ++ f (get_or xs i d) ∷ drop (i + 1) old =
    set-append_seam front (get_or old i 0) (drop (i + 1) old) (f (get_or xs i d)) in
    let more : map f (take (i + 1) xs) ≡ front ++ f (get_or xs i d) ∷ [] =
    rw (take_more xs i d within) (map-append f (take i xs) (get_or xs i d ∷ [])) in
    rw was (rw more (rw append_assoc (rw count at wrote)))
