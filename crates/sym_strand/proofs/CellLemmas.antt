-- Cells of segments, one segment after the other.
use Rattle.std.proofs.Common.{Result, Ok, Err, IfOk, ◌≡◌, ℕ, zero, suc, ◌+◌, ◌-◌, ◌^◌, ◌<◌, ◌≤◌, ◌⊎◌, min, false, Some, None, List, [], ◌∷◌, ◌++◌, length, get_or, take, drop, map, inl, inr, arith, refl, sym, ap, subst, ◌∙◌, append-nil}
use Rattle.std.specs.Prelude.{slice_get, slice_range}
use Rattle.std.proofs.lemmas.Bool.{cases_lt}
use Rattle.std.proofs.lemmas.List.{length-append, length-take, length-drop, take-map, drop-map, take_more, take-append-drop, drop_more, take_all, drop_min}
use Rattle.std.proofs.lemmas.Option.{slice_get-get_or}
use Rattle.std.proofs.lemmas.Grind.{flat_map-append}
use Rattle.fuun_base.specs.declared.letters.Base.{Base}
use Rattle.sym_strand.specs.declared.cells.Cell.{Cell}
use Rattle.sym_strand.specs.declared.cells.Cell.TheVariants.{Known}
use Rattle.sym_strand.specs.declared.segments.Seg.{Seg}
use Rattle.sym_strand.specs.declared.segments.Seg.TheVariants as seg
use Rattle.sym_strand.specs.Cells.{places_from, all_known, known_front}
use Rattle.sym_strand.specs.Segments.{cells_in, cells_of}
use Rattle.sym_strand.specs.Runs.{runs, IsTidy}
use Rattle.sym_strand.specs.Kept.{IsKept}
use Rattle.sym_strand.proofs.Places.{length-places, same_places, range-places}
use Rattle.sym_strand.proofs.RunLemmas.{runs_in, runs_append, runs_in_most}
use Rattle.sym_strand.proofs.Tidy.{tidy_at, tidy_some, runs_most, parted}

-- the bounds of a part of places
pub part_most : (lo from to : ℕ) → to ≤ 2 ^ 41 → length (places_from (lo + from) (lo + to - (lo + from))) ≤ 2 ^ 41
part_most lo from to most = omega (arith, length-places (lo + from) (lo + to - (lo + from)))

pub part_fits : (lo hi to : ℕ) → to ≤ length (places_from lo (hi - lo)) → (lo + to ≤ hi) ⊎ (to ≡ 0)
part_fits lo hi to within =
    elim (cases_lt 0 to) [
      | inl some ↦ inl (omega (arith, length-places lo (hi - lo)))
      | inr none ↦ inr (omega arith)
    ]

pub part_of_places : (lo hi from to : ℕ) → from ≤ to → to ≤ length (places_from lo (hi - lo))
    → places_from (lo + from) (lo + to - (lo + from)) ≡ slice_range (places_from lo (hi - lo)) from to
part_of_places lo hi from to order within =
    same_places (lo + from) (lo + from) (lo + to - (lo + from)) (to - from) refl (omega arith)
    ∙ sym (range-places lo (hi - lo) from to order (omega (arith, length-places lo (hi - lo))))

-- one segment alone
pub one_kept : (s : Seg) (len : ℕ) → 0 < length (cells_in s) → length (cells_in s) ≤ 2 ^ 41 → len ≡ length (cells_in s) → IsKept (s ∷ []) len
one_kept s len some most is =
    let same : cells_of (s ∷ []) ≡ cells_in s = append-nil (cells_in s) in
    record {
      length = is ∙ ap length (sym same);
      most = omega arith;
      tidy = record { number = sym (runs_in s some) ∙ ap runs (sym same) };
    }

pub nothing_there : (lo hi : ℕ) → hi ≤ lo → places_from lo (hi - lo) ≡ []
unfolding places_from
nothing_there lo hi order = ap (λ n. places_from lo n) (let e : hi - lo ≡ 0 = omega arith in e)

-- what is left of segments, one further on
pub cells_left : (segs : List Seg) (k : ℕ) (s : Seg) → k < length segs → s ≡ get_or segs k s → cells_of (drop k segs) ≡ cells_in s ++ cells_of (drop (k + 1) segs)
cells_left segs k s inside is = ap cells_of (drop_more segs k s inside) ∙ ap (λ x. cells_in x ++ cells_of (drop (k + 1) segs)) (sym is)

-- and what was passed
pub cells_passed : (segs : List Seg) (k : ℕ) (s : Seg) → k < length segs → s ≡ get_or segs k s → cells_of (take (k + 1) segs) ≡ cells_of (take k segs) ++ cells_in s
cells_passed segs k s inside is =
    ap cells_of (take_more segs k s inside) ∙ flat_map-append cells_in (take k segs) (get_or segs k s ∷ [])
    ∙ ap (λ z. cells_of (take k segs) ++ z) (append-nil (cells_in (get_or segs k s)) ∙ ap cells_in (sym is))

pub passed_most : (segs : List Seg) (k : ℕ) → length (cells_of (take k segs)) ≤ length (cells_of segs)
passed_most segs k =
    omega (arith, ap length (sym (flat_map-append cells_in (take k segs) (drop k segs)) ∙ ap cells_of (take-append-drop k segs)), length-append (cells_of (take k segs)) (cells_of (drop k segs)))

-- a cell of joined cells
pub get_front : {A : Type 0} (x y : List A) (k : ℕ) → k < length x → slice_get (x ++ y) k ≡ slice_get x k
get_front [] y k inside = absurd (omega arith)
get_front (c ∷ x) y zero inside = refl
get_front (c ∷ x) y (suc k) inside = get_front x y k (omega arith)

pub get_behind : {A : Type 0} (x y : List A) (k : ℕ) → length x ≤ k → slice_get (x ++ y) k ≡ slice_get y (k - length x)
get_behind [] y k past = ap (slice_get y) (let e : k ≡ k - 0 = omega arith in e)
get_behind (c ∷ x) y zero past = absurd (omega arith)
get_behind (c ∷ x) y (suc k) past = get_behind x y k (omega arith) ∙ ap (slice_get y) (let e : k - length x ≡ suc k - suc (length x) = omega arith in e)

-- whether all is known, one segment further on
pub all_known-known : (bases : List Base) (z : List Cell) → all_known (map Known bases ++ z) ≡ all_known z
all_known-known [] z = refl
all_known-known (b ∷ bases) z = all_known-known bases z

pub all_known-places : (lo n : ℕ) (z : List Cell) → 0 < n → all_known (places_from lo n ++ z) ≡ false
unfolding places_from
all_known-places lo zero z some = absurd (omega arith)
all_known-places lo (suc n) z some = refl

-- the known front of joined cells
pub front-known : (bases : List Base) (z : List Cell) → known_front (map Known bases ++ z) ≡ bases ++ known_front z
front-known [] z = refl
front-known (b ∷ bases) z = ap (λ l. b ∷ l) (front-known bases z)

pub front-places : (lo n : ℕ) (z : List Cell) → 0 < n → known_front (places_from lo n ++ z) ≡ []
unfolding places_from
front-places lo zero z some = absurd (omega arith)
front-places lo (suc n) z some = refl

some_places : (lo n : ℕ) → 0 < length (places_from lo n) → 0 < n
some_places lo n some = omega (arith, length-places lo n)

two_known : (a b : List Base) (z : List Cell) → map Known a ++ (map Known b ++ z) ≡ map Known (a ++ b) ++ z
two_known [] b z = refl
two_known (c ∷ a) b z = ap (λ l. Known c ∷ l) (two_known a b z)

-- behind the bases of a first segment stands no base
front_behind : (bases : List Base) (segs : List Seg) → IsTidy (seg.Known bases ∷ segs) → known_front (cells_of segs) ≡ []
front_behind bases [] tidy = refl
front_behind bases (seg.Target lo hi ∷ segs) tidy =
    front-places lo (hi - lo) (cells_of segs) (some_places lo (hi - lo) (tidy_some (seg.Known bases ∷ []) (seg.Target lo hi) segs tidy))
front_behind bases (seg.Known more ∷ segs) tidy =
    let one : runs (map Known (bases ++ more)) ≤ 1 = runs_in_most (seg.Known (bases ++ more)) in
    let whole : cells_of (seg.Known bases ∷ seg.Known more ∷ segs) ≡ map Known (bases ++ more) ++ cells_of segs = two_known bases more (cells_of segs) in
    absurd (omega (arith, tidy.number, ap runs whole, runs_append (map Known (bases ++ more)) (cells_of segs), one, runs_most segs))

front_of : (segs rest : List Seg) (s : Seg) → segs ≡ s ∷ rest → IsTidy segs → (bases : List Base) → s ≡ seg.Known bases → known_front (cells_of segs) ≡ bases
front_of segs rest s is tidy bases known =
    let whole : segs ≡ seg.Known bases ∷ rest = is ∙ ap (λ x. x ∷ rest) known in
    ap (λ l. known_front (cells_of l)) whole ∙ front-known bases (cells_of rest) ∙ ap (λ l. bases ++ l) (front_behind bases rest (subst IsTidy whole tidy)) ∙ append-nil bases

pub front_is : (segs : List Seg) (bases : List Base) → IsTidy segs → slice_get segs 0 ≡ Some (seg.Known bases) → known_front (cells_of segs) ≡ bases
front_is segs bases tidy first = front_of segs (drop 1 segs) (seg.Known bases) (parted segs 0 (seg.Known bases) first) tidy bases refl

pub no_front : (segs : List Seg) (lo hi : ℕ) → IsTidy segs → slice_get segs 0 ≡ Some (seg.Target lo hi) → known_front (cells_of segs) ≡ []
no_front segs lo hi tidy first =
    let whole : segs ≡ seg.Target lo hi ∷ drop 1 segs = parted segs 0 (seg.Target lo hi) first in
    ap (λ l. known_front (cells_of l)) whole
    ∙ front-places lo (hi - lo) (cells_of (drop 1 segs)) (some_places lo (hi - lo) (tidy_at segs 0 (seg.Target lo hi) tidy first))

pub front_of_none : (segs : List Seg) → slice_get segs 0 ≡ None → known_front (cells_of segs) ≡ []
front_of_none [] none = refl
front_of_none (s ∷ segs) none = cc

-- a range of a segment
pub range-known : (bases : List Base) (from to : ℕ) → slice_range (map Known bases) from to ≡ map Known (slice_range bases from to)
range-known bases from to = ap (take (to - from)) (drop-map Known from bases) ∙ take-map Known (to - from) (drop from bases)

-- a range of joined cells
take_append : {A : Type 0} (x y : List A) (n : ℕ) → take n (x ++ y) ≡ take n x ++ take (n - length x) y
take_append [] y zero = ap (λ k. take k y) (let e : 0 ≡ 0 - 0 = omega arith in e)
take_append [] y (suc n) = ap (λ k. take k y) (let e : suc n ≡ suc n - 0 = omega arith in e)
take_append (c ∷ x) y zero = ap (λ k. take k y) (let e : 0 ≡ 0 - suc (length x) = omega arith in e)
take_append (c ∷ x) y (suc n) = ap (λ l. c ∷ l) (take_append x y n) ∙ ap (λ k. c ∷ take n x ++ take k y) (let e : n - length x ≡ suc n - suc (length x) = omega arith in e)

drop_append : {A : Type 0} (x y : List A) (n : ℕ) → drop n (x ++ y) ≡ drop n x ++ drop (n - length x) y
drop_append [] y zero = refl
drop_append [] y (suc n) = ap (λ k. drop k y) (let e : suc n ≡ suc n - 0 = omega arith in e)
drop_append (c ∷ x) y zero = ap (λ k. c ∷ x ++ drop k y) (let e : 0 ≡ 0 - suc (length x) = omega arith in e)
drop_append (c ∷ x) y (suc n) = drop_append x y n ∙ ap (λ k. drop n x ++ drop k y) (let e : n - length x ≡ suc n - suc (length x) = omega arith in e)

min_turned : (m n : ℕ) → min m n ≡ min n m
min_turned m n = omega arith

take_enough : {A : Type 0} (l : List A) (m n : ℕ) → length l ≤ m → length l ≤ n → take m l ≡ take n l
take_enough l m n p q = take_all m l p ∙ sym (take_all n l q)

cut_short : {A : Type 0} (y : List A) (a b : ℕ) → a ≤ b → slice_range y (min (length y) a) (min (length y) b) ≡ slice_range y a b
cut_short y a b order =
    let from : drop (min (length y) a) y ≡ drop a y = ap (λ n. drop n y) (min_turned (length y) a) ∙ drop_min a y in
    ap (take (min (length y) b - min (length y) a)) from
    ∙ elim (cases_lt (length y) b) [
      | inl past ↦ take_enough (drop a y) (min (length y) b - min (length y) a) (b - a) (omega (arith, length-drop a y)) (omega (arith, length-drop a y))
      | inr within ↦ ap (λ n. take n (drop a y)) (let e : min (length y) b - min (length y) a ≡ b - a = omega arith in e)
    ]

pub range-append : {A : Type 0} (x y : List A) (lo hi : ℕ) → lo ≤ hi
    → slice_range (x ++ y) lo hi ≡ slice_range x lo hi ++ slice_range y (min (length y) (lo - length x)) (min (length y) (hi - length x))
range-append x y lo hi order =
    ap (take (hi - lo)) (drop_append x y lo)
    ∙ take_append (drop lo x) (drop (lo - length x) y) (hi - lo)
    ∙ ap (λ n. slice_range x lo hi ++ take n (drop (lo - length x) y)) (let e : hi - lo - length (drop lo x) ≡ (hi - length x) - (lo - length x) = omega (arith, length-drop lo x) in e)
    ∙ ap (λ l. slice_range x lo hi ++ l) (sym (cut_short y (lo - length x) (hi - length x) (omega arith)))

pub range_most : (x : List Cell) (lo hi : ℕ) → length (slice_range x lo hi) ≤ length x
range_most x lo hi = omega (arith, length-take (hi - lo) (drop lo x), length-drop lo x)

-- a target segment that is not empty holds a place
pub not_all_known : (segs : List Seg) (k : ℕ) (s : Seg) (lo hi : ℕ) → IsTidy segs → k < length segs → s ≡ get_or segs k s → s ≡ seg.Target lo hi
    → all_known (cells_of (drop k segs)) ≡ false
not_all_known segs k s lo hi tidy inside is target =
    let some : 0 < length (cells_in s) = tidy_at segs k s tidy (slice_get-get_or segs k s inside ∙ ap Some (sym is)) in
    ap all_known (cells_left segs k s inside is ∙ ap (λ x. cells_in x ++ cells_of (drop (k + 1) segs)) target)
    ∙ all_known-places lo (hi - lo) (cells_of (drop (k + 1) segs)) (some_places lo (hi - lo) (subst (λ x. 0 < length (cells_in x)) target some))

pub known_passed : (segs : List Seg) (k : ℕ) (s : Seg) (bases : List Base) → k < length segs → s ≡ get_or segs k s → s ≡ seg.Known bases
    → all_known (cells_of (drop k segs)) ≡ all_known (cells_of (drop (k + 1) segs))
known_passed segs k s bases inside is known =
    ap all_known (cells_left segs k s inside is ∙ ap (λ x. cells_in x ++ cells_of (drop (k + 1) segs)) known)
    ∙ all_known-known bases (cells_of (drop (k + 1) segs))

pub ok_same : {A E : Type 0} (result : Result A E) (a b : A) → IfOk result (λ x. x ≡ a) → a ≡ b → IfOk result (λ x. x ≡ b)
ok_same (Ok x) a b is same = is ∙ same
ok_same (Err e) a b is same = tt

-- one segment more of a range
pub sub_more : (segs : List Seg) (k : ℕ) (s : Seg) (lo hi start : ℕ) → lo ≤ hi → k < length segs → s ≡ get_or segs k s → start ≡ length (cells_of (take k segs))
    → slice_range (cells_of (take k segs)) lo hi ++ slice_range (cells_in s) (min (length (cells_in s)) (lo - start)) (min (length (cells_in s)) (hi - start))
    ≡ slice_range (cells_of (take (k + 1) segs)) lo hi
sub_more segs k s lo hi start order inside is at =
    ap (λ n. slice_range (cells_of (take k segs)) lo hi ++ slice_range (cells_in s) (min (length (cells_in s)) (lo - n)) (min (length (cells_in s)) (hi - n))) at
    ∙ sym (range-append (cells_of (take k segs)) (cells_in s) lo hi order)
    ∙ ap (λ z. slice_range z lo hi) (sym (cells_passed segs k s inside is))

pub start_more : (segs : List Seg) (k : ℕ) (s : Seg) → k < length segs → s ≡ get_or segs k s
    → length (cells_of (take k segs)) + length (cells_in s) ≡ length (cells_of (take (k + 1) segs))
start_more segs k s inside is = omega (arith, ap length (cells_passed segs k s inside is), length-append (cells_of (take k segs)) (cells_in s))
