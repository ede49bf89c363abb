-- Segments of which there are as many as runs are the fewest.
use Rattle.std.proofs.Common.{◌≡◌, ℕ, suc, ◌+◌, ◌-◌, ◌<◌, ◌≤◌, Some, None, Option, MatchOption, Result, Ok, Err, IfOk, List, [], ◌∷◌, ◌++◌, length, take, drop, set, inl, inr, arith, refl, sym, ap, subst, ◌∙◌, append_assoc, append-nil, take-append-drop, drop-cons}
use Rattle.std.specs.Prelude.{slice_get}
use Rattle.std.specs.List.{remove}
use Rattle.std.proofs.lemmas.Bool.{cases_lt}
use Rattle.std.proofs.lemmas.List.{length-append, length-take-le, take_at, drop_at, set_at, drop_all}
use Rattle.std.proofs.lemmas.Option.{slice_get_within, slice_get_cases, get_or_from_slice_get}
use Rattle.std.proofs.lemmas.Grind.{flat_map-append}
use Rattle.sym_strand.specs.declared.cells.Cell.{Cell}
use Rattle.sym_strand.specs.declared.segments.Seg.{Seg}
use Rattle.sym_strand.specs.Segments.{cells_in, cells_of, StandFor}
use Rattle.sym_strand.specs.Runs.{runs, IsTidy, IsJoint, seamed, IsSeam}
use Rattle.sym_strand.proofs.RunLemmas.{runs_across, runs_append, runs_in, runs_in_most}

-- there are never fewer segments than runs
pub runs_most : (segs : List Seg) → runs (cells_of segs) ≤ length segs
runs_most [] = omega arith
runs_most (s ∷ segs) = omega (arith, runs_append (cells_in s) (cells_of segs), runs_in_most s, runs_most segs)

nil_of : (z : List Cell) → length z ≤ 0 → z ≡ []
nil_of [] none = refl
nil_of (c ∷ z) none = absurd (omega arith)

-- so none of as many is empty
pub tidy_some : (a : List Seg) (s : Seg) (b : List Seg) → IsTidy (a ++ s ∷ b) → 0 < length (cells_in s)
tidy_some a s b tidy =
    elim (cases_lt 0 (length (cells_in s))) [
      | inl some ↦ some
      | inr none ↦
          let without : cells_of (a ++ s ∷ b) ≡ cells_of (a ++ b) =
          flat_map-append cells_in a (s ∷ b) ∙ ap (λ z. cells_of a ++ (z ++ cells_of b)) (nil_of (cells_in s) none) ∙ sym (flat_map-append cells_in a b) in
          absurd (omega (arith, tidy.number, ap runs without, runs_most (a ++ b), length-append a (s ∷ b), length-append a b))
    ]

-- an item of a list, and what stands before and behind it
pub parted : {A : Type 0} (xs : List A) (k : ℕ) (x : A) → slice_get xs k ≡ Some x → xs ≡ take k xs ++ x ∷ drop (suc k) xs
parted xs k x is =
    sym (take-append-drop k xs)
    ∙ ap (λ l. take k xs ++ l) (drop-cons xs k x (slice_get_within xs k x is) ∙ ap (λ y. y ∷ drop (suc k) xs) (get_or_from_slice_get xs k x x is))

pub tidy_at : (segs : List Seg) (k : ℕ) (s : Seg) → IsTidy segs → slice_get segs k ≡ Some s → 0 < length (cells_in s)
tidy_at segs k s tidy is = tidy_some (take k segs) s (drop (suc k) segs) (subst IsTidy (parted segs k s is) tidy)

pub tidy_fewest : (segs : List Seg) (z : List Cell) → IsTidy segs → cells_of segs ≡ z → StandFor segs z
tidy_fewest segs z tidy same = record {
  cells = same;
  some = λ k s is. tidy_at segs k s tidy is;
  fewest = λ others also. omega (arith, tidy.number, runs_most others, ap runs (also ∙ sym same));
}

-- how many runs there are where two lists of segments meet
runs_where_met : (a m n y : List Cell) → 0 < length m → 0 < length n → runs m ≡ 1 → runs n ≡ 1
    → runs ((a ++ m) ++ (n ++ y)) + 2 ≡ runs (a ++ m) + runs (m ++ n) + runs (n ++ y)
runs_where_met a m n y some_m some_n one_m one_n =
    omega (arith, ap runs (append_assoc a m (n ++ y)), runs_across a m (n ++ y) some_m, runs_across m n y some_n)

cells_push : (a : List Seg) (s : Seg) → cells_of (a ++ s ∷ []) ≡ cells_of a ++ cells_in s
cells_push a s = flat_map-append cells_in a (s ∷ []) ∙ ap (λ z. cells_of a ++ z) (append-nil (cells_in s))

met : (a : List Seg) (s o : Seg) (b : List Seg) → IsTidy (a ++ s ∷ []) → IsTidy (o ∷ b)
    → runs (cells_of (a ++ s ∷ []) ++ cells_of (o ∷ b)) + 2 ≡ length (a ++ s ∷ []) + runs (cells_in s ++ cells_in o) + length (o ∷ b)
met a s o b tidy more =
    let some_s : 0 < length (cells_in s) = tidy_some a s [] tidy in
    let some_o : 0 < length (cells_in o) = tidy_some [] o b more in
    let sum = runs_where_met (cells_of a) (cells_in s) (cells_in o) (cells_of b) some_s some_o (runs_in s some_s) (runs_in o some_o) in
    let here : runs (cells_of (a ++ s ∷ [])) ≡ runs (cells_of a ++ cells_in s) = ap runs (cells_push a s) in
    let whole : runs (cells_of (a ++ s ∷ []) ++ cells_of (o ∷ b)) ≡ runs ((cells_of a ++ cells_in s) ++ (cells_in o ++ cells_of b)) = ap (λ z. runs (z ++ cells_of (o ∷ b))) (cells_push a s) in
    omega (arith, tidy.number, more.number, sum, here, whole)

-- the cells of segments with one in the place of two
seamed_cells : (a : List Seg) (s o seam : Seg) (b : List Seg) → cells_in seam ≡ cells_in s ++ cells_in o → cells_of (a ++ seam ∷ b) ≡ cells_of (a ++ s ∷ []) ++ cells_of (o ∷ b)
seamed_cells a s o seam b same =
    flat_map-append cells_in a (seam ∷ b)
    ∙ ap (λ z. cells_of a ++ (z ++ cells_of b)) same
    ∙ ap (λ z. cells_of a ++ z) (append_assoc (cells_in s) (cells_in o) (cells_of b))
    ∙ sym (append_assoc (cells_of a) (cells_in s) (cells_in o ++ cells_of b))
    ∙ ap (λ z. z ++ (cells_in o ++ cells_of b)) (sym (cells_push a s))

tidy_apart : (a : List Seg) (s o : Seg) (b : List Seg) → IsTidy (a ++ s ∷ []) → IsTidy (o ∷ b) → runs (cells_in s ++ cells_in o) ≡ 2 → IsTidy ((a ++ s ∷ []) ++ o ∷ b)
tidy_apart a s o b tidy more two = record {
  number = omega (arith, met a s o b tidy more, ap runs (flat_map-append cells_in (a ++ s ∷ []) (o ∷ b)), length-append (a ++ s ∷ []) (o ∷ b));
}

tidy_seamed : (a : List Seg) (s o seam : Seg) (b : List Seg) → IsTidy (a ++ s ∷ []) → IsTidy (o ∷ b) → cells_in seam ≡ cells_in s ++ cells_in o → IsTidy (a ++ seam ∷ b)
tidy_seamed a s o seam b tidy more same =
    let some_s : 0 < length (cells_in s) = tidy_some a s [] tidy in
    let long : length (cells_in seam) ≡ length (cells_in s) + length (cells_in o) = ap length same ∙ length-append (cells_in s) (cells_in o) in
    let one : runs (cells_in seam) ≡ 1 = runs_in seam (omega arith) in
    let joined : runs (cells_in s ++ cells_in o) ≡ 1 = ap runs (sym same) ∙ one in
    record {
      number = omega (arith, met a s o b tidy more, ap runs (seamed_cells a s o seam b same), length-append a (seam ∷ b), length-append a (s ∷ []));
    }

slice_get_some : (segs : List Seg) (k : ℕ) (s : Seg) → slice_get segs k ≡ Some s → 0 < length segs
slice_get_some segs k s is = let within : k < length segs = slice_get_within segs k s is in omega arith

-- the same by the lists as they are

last_of : (segs : List Seg) (s : Seg) → slice_get segs (length segs - 1) ≡ Some s → segs ≡ take (length segs - 1) segs ++ s ∷ []
last_of segs s is =
    parted segs (length segs - 1) s is
    ∙ ap (λ l. take (length segs - 1) segs ++ s ∷ l) (drop_all (suc (length segs - 1)) segs (omega arith))

first_of_list : (more : List Seg) (o : Seg) → slice_get more 0 ≡ Some o → more ≡ o ∷ drop 1 more
first_of_list more o is = parted more 0 o is

pub seam_found : (segs more : List Seg) (s o : Seg) (joint : Option Seg) → IsTidy segs → IsTidy more
    → slice_get segs (length segs - 1) ≡ Some s → slice_get more 0 ≡ Some o → IsJoint s o joint → MatchOption joint (IsTidy (segs ++ more)) (IsSeam segs more)
seam_found segs more s o None tidy also last first joint =
    let a = take (length segs - 1) segs in
    let b = drop 1 more in
    let p : segs ≡ a ++ s ∷ [] = last_of segs s last in
    let q : more ≡ o ∷ b = first_of_list more o first in
    let t : IsTidy (a ++ s ∷ []) = subst IsTidy p tidy in
    let u : IsTidy (o ∷ b) = subst IsTidy q also in
    subst (λ l. IsTidy (l ++ more)) (sym p) (subst (λ l. IsTidy ((a ++ s ∷ []) ++ l)) (sym q)
    (tidy_apart a s o b t u (joint (tidy_some a s [] t) (tidy_some [] o b u))))
seam_found segs more s o (Some seam) tidy also last first joint =
    let a = take (length segs - 1) segs in
    let b = drop 1 more in
    let p : segs ≡ a ++ s ∷ [] = last_of segs s last in
    let q : more ≡ o ∷ b = first_of_list more o first in
    let t : IsTidy (a ++ s ∷ []) = subst IsTidy p tidy in
    let u : IsTidy (o ∷ b) = subst IsTidy q also in
    let same : cells_in seam ≡ cells_in s ++ cells_in o = joint (tidy_some a s [] t) (tidy_some [] o b u) in
    record {
      last = slice_get_some segs (length segs - 1) s last;
      first = slice_get_some more 0 o first;
      cells = seamed_cells a s o seam b same ∙ ap (λ l. cells_of l ++ cells_of (o ∷ b)) (sym p) ∙ ap (λ l. cells_of segs ++ cells_of l) (sym q);
      tidy = tidy_seamed a s o seam b t u same;
    }

pub seam_ok : {E : Type 0} (segs more : List Seg) (s o : Seg) (result : Result (Option Seg) E) → IsTidy segs → IsTidy more
    → slice_get segs (length segs - 1) ≡ Some s → slice_get more 0 ≡ Some o → IfOk result (IsJoint s o)
    → IfOk result (λ seam. MatchOption seam (IsTidy (segs ++ more)) (IsSeam segs more))
seam_ok segs more s o (Ok seam) tidy also last first joint = seam_found segs more s o seam tidy also last first joint
seam_ok segs more s o (Err e) tidy also last first joint = tt

-- what is left where the vectors were joined, one item was set and one removed
by_parts : (a : List Seg) (s o seam : Seg) (b : List Seg) (n : ℕ) → n ≡ length a
    → remove (set ((a ++ s ∷ []) ++ o ∷ b) (n + 1) seam) n ≡ a ++ seam ∷ b
by_parts a s o seam b n is =
    let long : length (a ++ s ∷ []) ≡ n + 1 = omega (arith, length-append a (s ∷ [])) in
    let put : set ((a ++ s ∷ []) ++ o ∷ b) (n + 1) seam ≡ (a ++ s ∷ []) ++ seam ∷ b = set_at (a ++ s ∷ []) o b seam (n + 1) long in
    let put_flat : set ((a ++ s ∷ []) ++ o ∷ b) (n + 1) seam ≡ a ++ s ∷ seam ∷ b = put ∙ append_assoc a (s ∷ []) (seam ∷ b) in
    let n_is : length a ≡ n = sym is in
    let next : length (a ++ s ∷ []) ≡ suc n = omega (arith, long) in
    ap (λ l. remove l n) put
    ∙ ap (λ l. l ++ drop (suc n) ((a ++ s ∷ []) ++ seam ∷ b)) (ap (take n) (append_assoc a (s ∷ []) (seam ∷ b)) ∙ take_at a (s ∷ seam ∷ b) n n_is)
    ∙ ap (λ l. a ++ l) (drop_at (a ++ s ∷ []) (seam ∷ b) (suc n) next)

at_last : (segs : List Seg) → 0 < length segs → (s : Seg) × (slice_get segs (length segs - 1) ≡ Some s)
at_last segs some =
    elim (slice_get_cases segs (length segs - 1)).1 [
      | inl found ↦ (found.0, found.2)
      | inr past ↦ absurd (let h = past.0 in omega (arith, h))
    ]

at_first : (more : List Seg) → 0 < length more → (o : Seg) × (slice_get more 0 ≡ Some o)
at_first [] some = absurd (omega arith)
at_first (o ∷ more) some = (o, refl)

by_cases : (segs more : List Seg) (seam : Seg) → 0 < length segs → 0 < length more → remove (set (segs ++ more) (length segs) seam) (length segs - 1) ≡ seamed segs more seam
by_cases segs more seam some also =
    let last = at_last segs some in
    let first = at_first more also in
    let a = take (length segs - 1) segs in
    let b = drop 1 more in
    let p : segs ≡ a ++ last.0 ∷ [] = last_of segs last.0 last.1 in
    let q : more ≡ first.0 ∷ b = first_of_list more first.0 first.1 in
    let e : length segs ≡ length segs - 1 + 1 = omega arith in
    ap (λ l. remove (set (l ++ more) (length segs) seam) (length segs - 1)) p
    ∙ ap (λ l. remove (set ((a ++ last.0 ∷ []) ++ l) (length segs) seam) (length segs - 1)) q
    ∙ ap (λ n. remove (set ((a ++ last.0 ∷ []) ++ first.0 ∷ b) n seam) (length segs - 1)) e
    ∙ by_parts a last.0 first.0 seam b (length segs - 1) (sym (length-take-le (length segs - 1) segs (omega arith)))

pub seamed_by_hand : (segs more : List Seg) (seam : Seg) → IsSeam segs more seam
    → remove (set (segs ++ more) (length segs) seam) (length segs - 1) ≡ seamed segs more seam
seamed_by_hand segs more seam is = by_cases segs more seam is.last is.first
