-- Each list of cells has segments, and the fewest are one list.
use Rattle.std.proofs.Common.{◌≡◌, ◌≢◌, ℕ, zero, suc, ◌+◌, ◌-◌, ◌<◌, ◌≤◌, ◌==◌, cond, Bool, true, false, List, [], ◌∷◌, ◌++◌, length, map, arith, refl, sym, ap, subst, ◌∙◌, eq-eqb}
use Rattle.std.proofs.lemmas.Bool.{ne_eqb, eqb-true}
use Rattle.std.proofs.lemmas.List.{append_assoc}
use Rattle.fuun_base.specs.declared.letters.Base.{Base}
use Rattle.sym_strand.specs.declared.cells.Cell.{Cell}
use Rattle.sym_strand.specs.declared.cells.Cell.TheVariants.{Known, Target}
use Rattle.sym_strand.specs.declared.segments.Seg.{Seg}
use Rattle.sym_strand.specs.declared.segments.Seg.TheVariants as seg
use Rattle.sym_strand.specs.Cells.{places_from}
use Rattle.sym_strand.specs.Segments.{cells_in, cells_of, StandFor}
use Rattle.sym_strand.specs.Runs.{breaks, runs, IsTidy}
use Rattle.sym_strand.specs.Laws.{HasSegments, SegmentsAreOne}
use Rattle.sym_strand.proofs.Places.{length-places, append-places}
use Rattle.sym_strand.proofs.RunLemmas.{runs_append, runs_in_most}
use Rattle.sym_strand.proofs.Tidy.{runs_most, tidy_some, tidy_fewest}

-- the segments of cells, one cell after the other from the last on

abbrev place_before : Bool → ℕ → ℕ → ℕ → List Seg → List Seg
place_before true p lo hi segs = seg.Target p hi ∷ segs
place_before false p lo hi segs = seg.Target p (p + 1) ∷ seg.Target lo hi ∷ segs

abbrev before : Cell → List Seg → List Seg
before (Known b) [] = seg.Known (b ∷ []) ∷ []
before (Known b) (seg.Known bases ∷ segs) = seg.Known (b ∷ bases) ∷ segs
before (Known b) (seg.Target lo hi ∷ segs) = seg.Known (b ∷ []) ∷ seg.Target lo hi ∷ segs
before (Target p) [] = seg.Target p (p + 1) ∷ []
before (Target p) (seg.Known bases ∷ segs) = seg.Target p (p + 1) ∷ seg.Known bases ∷ segs
before (Target p) (seg.Target lo hi ∷ segs) = place_before (p + 1 == lo) p lo hi segs

abbrev segments : List Cell → List Seg
segments [] = []
segments (c ∷ z) = before c (segments z)

-- they stand for the cells, and there are as many as runs

runs_before : (c d : Cell) (w z : List Cell) → w ≡ d ∷ z → runs (c ∷ w) ≡ breaks c d + runs w
runs_before c d w z is = ap (λ l. runs (c ∷ l)) is ∙ ap (λ l. breaks c d + runs l) (sym is)

places_first : (lo n : ℕ) (z : List Cell) → 0 < n → places_from lo n ++ z ≡ Target lo ∷ (places_from (lo + 1) (n - 1) ++ z)
unfolding places_from
places_first lo zero z some = absurd (omega arith)
places_first lo (suc n) z some = ap (λ k. Target lo ∷ (places_from (lo + 1) k ++ z)) (let e : n ≡ suc n - 1 = omega arith in e)

one_place : (p n : ℕ) (z : List Cell) → n ≡ 1 → places_from p n ++ z ≡ Target p ∷ z
unfolding places_from
one_place p n z is = ap (λ k. places_from p k ++ z) is

some_places : (lo hi : ℕ) (segs : List Seg) → IsTidy (seg.Target lo hi ∷ segs) → 0 < hi - lo
some_places lo hi segs tidy =
    let some : 0 < length (places_from lo (hi - lo)) = tidy_some [] (seg.Target lo hi) segs tidy in
    omega (arith, length-places lo (hi - lo))

no_empty : (segs : List Seg) → IsTidy (seg.Known [] ∷ segs) → ⊥
no_empty segs tidy = let some : 0 < length (cells_in (seg.Known [])) = tidy_some [] (seg.Known []) segs tidy in omega arith

record StandsWith (c : Cell) (segs : List Seg) (whole : List Seg) : Type 0 where
  cells : cells_of whole ≡ c ∷ cells_of segs
  number : length whole ≡ runs (c ∷ cells_of segs)

place_stands : (p lo hi : ℕ) (segs : List Seg) → IsTidy (seg.Target lo hi ∷ segs) → (b : Bool) → (p + 1 == lo) ≡ b → StandsWith (Target p) (seg.Target lo hi ∷ segs) (place_before b p lo hi segs)
place_stands p lo hi segs tidy b is =
    let some : 0 < hi - lo = some_places lo hi segs tidy in
    let w : List Cell = places_from lo (hi - lo) ++ cells_of segs in
    let first : w ≡ Target lo ∷ (places_from (lo + 1) (hi - lo - 1) ++ cells_of segs) = places_first lo (hi - lo) (cells_of segs) some in
    let count : runs (Target p ∷ w) ≡ cond b 0 1 + runs w = runs_before (Target p) (Target lo) w (places_from (lo + 1) (hi - lo - 1) ++ cells_of segs) first ∙ ap (λ x. cond x 0 1 + runs w) is in
    by_answer b is some count where
      by_answer : (b : Bool) → (p + 1 == lo) ≡ b → 0 < hi - lo → runs (Target p ∷ (places_from lo (hi - lo) ++ cells_of segs)) ≡ cond b 0 1 + runs (places_from lo (hi - lo) ++ cells_of segs)
          → StandsWith (Target p) (seg.Target lo hi ∷ segs) (place_before b p lo hi segs)
      by_answer true is some count =
          let next : p + 1 ≡ lo = eqb-true (p + 1) lo is in
          record {
            cells =
                places_first p (hi - p) (cells_of segs) (omega arith)
                ∙ ap (λ k. Target p ∷ (places_from k (hi - p - 1) ++ cells_of segs)) next
                ∙ ap (λ k. Target p ∷ (places_from lo k ++ cells_of segs)) (let e : hi - p - 1 ≡ hi - lo = omega arith in e);
            number = omega (arith, tidy.number, count);
          }
      by_answer false is some count = record {
        cells = one_place p (p + 1 - p) (places_from lo (hi - lo) ++ cells_of segs) (omega arith);
        number = omega (arith, tidy.number, count);
      }

stands_with : (c : Cell) (segs : List Seg) → IsTidy segs → StandsWith c segs (before c segs)
stands_with (Known b) [] tidy = record { cells = refl; number = refl }
stands_with (Known b) (seg.Known [] ∷ segs) tidy = absurd (no_empty segs tidy)
stands_with (Known b) (seg.Known (a ∷ bases) ∷ segs) tidy = record { cells = refl; number = omega (arith, tidy.number) }
stands_with (Known b) (seg.Target lo hi ∷ segs) tidy =
    let w : List Cell = places_from lo (hi - lo) ++ cells_of segs in
    let count : runs (Known b ∷ w) ≡ 1 + runs w = runs_before (Known b) (Target lo) w (places_from (lo + 1) (hi - lo - 1) ++ cells_of segs) (places_first lo (hi - lo) (cells_of segs) (some_places lo hi segs tidy)) in
    record { cells = refl; number = omega (arith, tidy.number, count) }
stands_with (Target p) [] tidy = record { cells = one_place p (p + 1 - p) [] (omega arith); number = refl }
stands_with (Target p) (seg.Known [] ∷ segs) tidy = absurd (no_empty segs tidy)
stands_with (Target p) (seg.Known (a ∷ bases) ∷ segs) tidy = record {
  cells = one_place p (p + 1 - p) (map Known (a ∷ bases) ++ cells_of segs) (omega arith);
  number = omega (arith, tidy.number);
}
stands_with (Target p) (seg.Target lo hi ∷ segs) tidy = place_stands p lo hi segs tidy (p + 1 == lo) refl

record Stands (z : List Cell) : Type 0 where
  cells : cells_of (segments z) ≡ z
  tidy : IsTidy (segments z)

stands : (z : List Cell) → Stands z
stands [] = record { cells = refl; tidy = record { number = refl } }
stands (c ∷ z) =
    let rest : Stands z = stands z in
    let whole : StandsWith c (segments z) (before c (segments z)) = stands_with c (segments z) rest.tidy in
    record {
      cells = whole.cells ∙ ap (λ l. c ∷ l) rest.cells;
      tidy = record { number = whole.number ∙ ap runs (sym whole.cells) };
    }

pub has_segments : HasSegments
has_segments z = let s : Stands z = stands z in (segments z, tidy_fewest (segments z) z s.tidy s.cells)

-- as many segments as runs are those

abbrev NoBaseFirst : List Seg → Type 0
NoBaseFirst [] = Unit {0}
NoBaseFirst (seg.Known bases ∷ segs) = ⊥
NoBaseFirst (seg.Target lo hi ∷ segs) = Unit {0}

abbrev NotFrom : ℕ → List Seg → Type 0
NotFrom place [] = Unit {0}
NotFrom place (seg.Known bases ∷ segs) = Unit {0}
NotFrom place (seg.Target lo hi ∷ segs) = place ≢ lo

tidy_rest : (s : Seg) (segs : List Seg) → IsTidy (s ∷ segs) → IsTidy segs
tidy_rest s segs tidy = record { number = omega (arith, tidy.number, runs_append (cells_in s) (cells_of segs), runs_in_most s, runs_most segs) }

two_known : (a b : List Base) (z : List Cell) → map Known a ++ (map Known b ++ z) ≡ map Known (a ++ b) ++ z
two_known [] b z = refl
two_known (c ∷ a) b z = ap (λ l. Known c ∷ l) (two_known a b z)

no_base_first : (bases : List Base) (segs : List Seg) → IsTidy (seg.Known bases ∷ segs) → NoBaseFirst segs
no_base_first bases [] tidy = tt
no_base_first bases (seg.Known more ∷ segs) tidy =
    omega (arith, tidy.number, ap runs (two_known bases more (cells_of segs)), runs_append (map Known (bases ++ more)) (cells_of segs), runs_in_most (seg.Known (bases ++ more)), runs_most segs)
no_base_first bases (seg.Target lo hi ∷ segs) tidy = tt

not_from : (lo hi : ℕ) (segs : List Seg) → IsTidy (seg.Target lo hi ∷ segs) → NotFrom hi segs
not_from lo hi [] tidy = tt
not_from lo hi (seg.Known bases ∷ segs) tidy = tt
not_from lo hi (seg.Target from to ∷ segs) tidy = λ is.
    let n : ℕ = hi - lo in
    let m : ℕ = to - from in
    let some : 0 < hi - lo = some_places lo hi (seg.Target from to ∷ segs) tidy in
    let ends : from ≡ lo + n = omega arith in
    let joined : places_from lo n ++ (places_from from m ++ cells_of segs) ≡ places_from lo (n + m) ++ cells_of segs =
    sym (append_assoc (places_from lo n) (places_from from m) (cells_of segs))
    ∙ ap (λ z. z ++ cells_of segs) (ap (λ k. places_from lo n ++ places_from k m) ends ∙ append-places lo n m) in
    let wide : lo + (n + m) - lo ≡ n + m = omega arith in
    let one : runs (places_from lo (n + m)) ≤ 1 = subst (λ k. runs (places_from lo k) ≤ 1) wide (runs_in_most (seg.Target lo (lo + (n + m)))) in
    omega (arith, tidy.number, ap runs joined, runs_append (places_from lo (n + m)) (cells_of segs), one, runs_most segs)

base_before : (b : Base) (segs : List Seg) → NoBaseFirst segs → before (Known b) segs ≡ seg.Known (b ∷ []) ∷ segs
base_before b [] apart = refl
base_before b (seg.Known bases ∷ segs) apart = absurd apart
base_before b (seg.Target lo hi ∷ segs) apart = refl

known_before : (b : Base) (bases : List Base) (z : List Cell) (segs : List Seg) → segments z ≡ segs → NoBaseFirst segs → segments (map Known (b ∷ bases) ++ z) ≡ seg.Known (b ∷ bases) ∷ segs
known_before b [] z segs is apart = ap (before (Known b)) is ∙ base_before b segs apart
known_before b (c ∷ bases) z segs is apart = ap (before (Known b)) (known_before c bases z segs is apart)

target_before : (p : ℕ) (segs : List Seg) → NotFrom (p + 1) segs → before (Target p) segs ≡ seg.Target p (p + 1) ∷ segs
target_before p [] apart = refl
target_before p (seg.Known bases ∷ segs) apart = refl
target_before p (seg.Target lo hi ∷ segs) apart = ap (λ b. place_before b p lo hi segs) (ne_eqb (p + 1) lo apart)

places_before : (lo n : ℕ) (z : List Cell) (segs : List Seg) → segments z ≡ segs → NotFrom (lo + suc n) segs → segments (places_from lo (suc n) ++ z) ≡ seg.Target lo (lo + suc n) ∷ segs
unfolding places_from
places_before lo zero z segs is apart = ap (before (Target lo)) is ∙ target_before lo segs apart
places_before lo (suc n) z segs is apart =
    let ends : lo + suc (suc n) ≡ lo + 1 + suc n = omega arith in
    ap (before (Target lo)) (places_before (lo + 1) n z segs is (subst (λ k. NotFrom k segs) ends apart))
    ∙ ap (λ b. place_before b lo (lo + 1) (lo + 1 + suc n) segs) (eq-eqb (lo + 1) (lo + 1) refl)
    ∙ ap (λ k. seg.Target lo k ∷ segs) (sym ends)

range_before : (lo hi n : ℕ) (z : List Cell) (segs : List Seg) → n ≡ hi - lo → 0 < n → segments z ≡ segs → NotFrom hi segs → segments (places_from lo n ++ z) ≡ seg.Target lo hi ∷ segs
range_before lo hi zero z segs count some is apart = absurd (omega arith)
range_before lo hi (suc n) z segs count some is apart =
    let ends : hi ≡ lo + suc n = omega arith in
    places_before lo n z segs is (subst (λ k. NotFrom k segs) ends apart) ∙ ap (λ k. seg.Target lo k ∷ segs) (sym ends)

segments_of_tidy : (a : List Seg) → IsTidy a → segments (cells_of a) ≡ a
segments_of_tidy [] tidy = refl
segments_of_tidy (seg.Known [] ∷ segs) tidy = absurd (no_empty segs tidy)
segments_of_tidy (seg.Known (b ∷ bases) ∷ segs) tidy =
    known_before b bases (cells_of segs) segs (segments_of_tidy segs (tidy_rest (seg.Known (b ∷ bases)) segs tidy)) (no_base_first (b ∷ bases) segs tidy)
segments_of_tidy (seg.Target lo hi ∷ segs) tidy =
    range_before lo hi (hi - lo) (cells_of segs) segs refl (some_places lo hi segs tidy) (segments_of_tidy segs (tidy_rest (seg.Target lo hi) segs tidy)) (not_from lo hi segs tidy)

-- the fewest are as many as runs

fewest_tidy : (a : List Seg) (z : List Cell) → StandFor a z → IsTidy a
fewest_tidy a z x =
    let s : Stands z = stands z in
    record { number = omega (arith, x.fewest (segments z) s.cells, s.tidy.number, ap runs s.cells, ap runs x.cells, runs_most a) }

of_cells : (a : List Seg) (z : List Cell) → StandFor a z → segments z ≡ a
of_cells a z x = ap segments (sym x.cells) ∙ segments_of_tidy a (fewest_tidy a z x)

pub segments_are_one : SegmentsAreOne
segments_are_one z a b x y = sym (of_cells a z x) ∙ of_cells b z y
