-- Two bitmaps made one, as far as a loop over the places has come.
use Rattle.std.proofs.Common.{◌≡◌, ℕ, zero, suc, ◌+◌, ◌<◌, ◌≤◌, List, [], ◌∷◌, ◌++◌, length, take, drop, set, get_or, arith, refl, sym, ap, ◌∙◌, add-one, append_assoc, append-nil, drop-cons}
use Rattle.std.proofs.Math.Seq.{get_or-append_seam, set-append_seam}
use Rattle.std.proofs.lemmas.List.{take_more, take_all, drop_all, length-take-le}
use Rattle.canvas.specs.Pixels.{Rgba}
use Rattle.layers.specs.Layers.{each_place}

pub length-each_place : (f : Rgba → Rgba → Rgba) (top next : List Rgba) → length top ≡ length next → length (each_place f top next) ≡ length top
length-each_place f [] next same = refl
length-each_place f (p ∷ top) [] same = absurd (omega arith)
length-each_place f (p ∷ top) (q ∷ next) same = omega (arith, length-each_place f top next (omega arith))

pub get_or-each_place : (f : Rgba → Rgba → Rgba) (top next : List Rgba) (i : ℕ) (d p q : Rgba) → length top ≡ length next → i < length top → get_or (each_place f top next) i d ≡ f (get_or top i p) (get_or next i q)
get_or-each_place f [] next i d p q same within = absurd (omega arith)
get_or-each_place f (x ∷ top) [] i d p q same within = absurd (omega arith)
get_or-each_place f (x ∷ top) (y ∷ next) zero d p q same within = refl
get_or-each_place f (x ∷ top) (y ∷ next) (suc i) d p q same within = get_or-each_place f top next i d p q (omega arith) (omega arith)

-- what stands at the next place
pub get_or-seam : (made old : List Rgba) (i : ℕ) (d : Rgba) → i < length old → length made ≡ length old → get_or (take i made ++ drop i old) i d ≡ get_or old i d
get_or-seam made old i d within same =
    let count : length (take i made) ≡ i = length-take-le i made (omega arith) in
    let rest : drop i old ≡ get_or old i d ∷ drop (i + 1) old = rw (add-one, drop-cons old i d within) refl in
    let there : get_or (take i made ++ get_or old i d ∷ drop (i + 1) old) (length (take i made)) d ≡ get_or old i d = get_or-append_seam (take i made) (get_or old i d) (drop (i + 1) old) d in
    rw rest (rw count at there)

-- one place more
pub seam_more : (made old now : List Rgba) (i : ℕ) (d r : Rgba) → i < length old → length made ≡ length old → now ≡ take i made ++ drop i old → get_or made i d ≡ r → set now i r ≡ take (i + 1) made ++ drop (i + 1) old
seam_more made old now i d r within same is value =
    let front : List Rgba = take i made in
    let count : length front ≡ i = length-take-le i made (omega arith) in
    let rest : drop i old ≡ get_or old i d ∷ drop (i + 1) old = rw (add-one, drop-cons old i d within) refl in
    let was : now ≡ front ++ get_or old i d ∷ drop (i + 1) old = is ∙ ap (λ k. front ++ k) rest in
    let wrote : set (front ++ get_or old i d ∷ drop (i + 1) old) (length front) r ≡ front ++ r ∷ drop (i + 1) old = set-append_seam front (get_or old i d) (drop (i + 1) old) r in
    let inside : i < length made = omega arith in
    let more : take (i + 1) made ≡ front ++ r ∷ [] = take_more made i d inside ∙ ap (λ k. front ++ k ∷ []) value in
    rw was (rw more (rw append_assoc (rw count at wrote)))

-- one place more of two bitmaps
pub merged_more : (f : Rgba → Rgba → Rgba) (top next now : List Rgba) (i : ℕ) (p q r : Rgba) → length top ≡ length next → i < length top → now ≡ take i (each_place f top next) ++ drop i top → q ≡ get_or next i q → r ≡ f (get_or now i p) q → set now i r ≡ take (i + 1) (each_place f top next) ++ drop (i + 1) top
merged_more f top next now i p q r same within is q_is r_is =
    let made = each_place f top next in
    let long = length-each_place f top next same in
    let above : get_or now i p ≡ get_or top i p = ap (λ k. get_or k i p) is ∙ get_or-seam made top i p within long in
    let value : get_or made i p ≡ r = get_or-each_place f top next i p p q same within ∙ ap (λ k. f k (get_or next i q)) (sym above) ∙ ap (f (get_or now i p)) (sym q_is) ∙ sym r_is in
    seam_more made top now i p r within long is value

-- every place
pub merged_all : (f : Rgba → Rgba → Rgba) (top next now : List Rgba) (i : ℕ) → length top ≡ length next → length top ≤ i → now ≡ take i (each_place f top next) ++ drop i top → now ≡ each_place f top next
merged_all f top next now i same past is =
    let made = each_place f top next in
    let whole : take i made ≡ made = take_all i made (omega (arith, length-each_place f top next same)) in
    let none : drop i top ≡ [] = drop_all i top past in
    is ∙ rw (whole, none) (append-nil made)
