-- How many runs there are in joined cells.
use Rattle.std.proofs.Common.{◌≡◌, ◌≢◌, ℕ, zero, suc, ◌+◌, ◌-◌, ◌<◌, ◌≤◌, ◌==◌, cond, Bool, true, false, List, [], ◌∷◌, ◌++◌, length, map, arith, refl, sym, ap, subst, ◌∙◌, eq-eqb}
use Rattle.std.proofs.lemmas.Bool.{ne_eqb}
use Rattle.fuun_base.specs.declared.letters.Base.{Base}
use Rattle.sym_strand.specs.declared.cells.Cell.{Cell}
use Rattle.sym_strand.specs.declared.cells.Cell.TheVariants.{Known, Target}
use Rattle.sym_strand.specs.declared.segments.Seg.{Seg}
use Rattle.sym_strand.specs.declared.segments.Seg.TheVariants as seg
use Rattle.sym_strand.specs.Cells.{places_from}
use Rattle.sym_strand.specs.Segments.{cells_in}
use Rattle.sym_strand.specs.Runs.{breaks, runs}
use Rattle.sym_strand.proofs.Places.{length-places}

follows_at : (p : ℕ) → breaks (Target p) (Target (p + 1)) ≡ 0
follows_at p = ap (λ b. cond b 0 1) (eq-eqb (p + 1) (p + 1) refl)

apart_at : (p q : ℕ) → p + 1 ≢ q → breaks (Target p) (Target q) ≡ 1
apart_at p q apart = ap (λ b. cond b 0 1) (ne_eqb (p + 1) q apart)

-- a part in the middle, which has a cell, is counted once
across : (x : List Cell) (c : Cell) (m y : List Cell) → runs (x ++ (c ∷ m ++ y)) + runs (c ∷ m) ≡ runs (x ++ c ∷ m) + runs (c ∷ m ++ y)
across [] c m y = omega arith
across (a ∷ []) c m y = omega arith
across (a ∷ b ∷ x) c m y = omega (arith, across (b ∷ x) c m y)

pub runs_across : (x m y : List Cell) → 0 < length m → runs (x ++ (m ++ y)) + runs m ≡ runs (x ++ m) + runs (m ++ y)
runs_across x [] y some = absurd (omega arith)
runs_across x (c ∷ m) y some = across x c m y

cond_most : (b : Bool) → cond b 0 1 ≤ 1
cond_most true = omega arith
cond_most false = omega arith

breaks_most : (c d : Cell) → breaks c d ≤ 1
breaks_most (Known b) (Known c) = omega arith
breaks_most (Known b) (Target q) = omega arith
breaks_most (Target p) (Known c) = omega arith
breaks_most (Target p) (Target q) = cond_most (p + 1 == q)

pub runs_append : (x y : List Cell) → runs (x ++ y) ≤ runs x + runs y
runs_append [] y = omega arith
runs_append (c ∷ []) [] = omega arith
runs_append (c ∷ []) (d ∷ y) = omega (arith, breaks_most c d)
runs_append (c ∷ d ∷ x) y = omega (arith, runs_append (d ∷ x) y)

runs_known : (b : Base) (bases : List Base) → runs (map Known (b ∷ bases)) ≡ 1
runs_known b [] = refl
runs_known b (c ∷ bases) = omega (arith, runs_known c bases)

runs_places : (lo n : ℕ) → runs (places_from lo (suc n)) ≡ 1
unfolding places_from
runs_places lo zero = refl
runs_places lo (suc n) = omega (arith, follows_at lo, runs_places (lo + 1) n)

known_before : (b : Base) (bases : List Base) (q : ℕ) (y : List Cell) → runs (map Known (b ∷ bases) ++ Target q ∷ y) ≡ 1 + runs (Target q ∷ y)
known_before b [] q y = refl
known_before b (c ∷ bases) q y = omega (arith, known_before c bases q y)

places_before_known : (lo n : ℕ) (b : Base) (y : List Cell) → runs (places_from lo (suc n) ++ Known b ∷ y) ≡ 1 + runs (Known b ∷ y)
unfolding places_from
places_before_known lo zero b y = refl
places_before_known lo (suc n) b y = omega (arith, follows_at lo, places_before_known (lo + 1) n b y)

places_before : (lo n q : ℕ) (y : List Cell) → lo + suc n ≢ q → runs (places_from lo (suc n) ++ Target q ∷ y) ≡ 1 + runs (Target q ∷ y)
unfolding places_from
places_before lo zero q y apart = omega (arith, apart_at lo q (λ e. apart (let h : lo + 1 ≡ q = e in omega arith)))
places_before lo (suc n) q y apart = omega (arith, follows_at lo, places_before (lo + 1) n q y (λ e. apart (omega (arith, e))))

one_run : (lo n : ℕ) → 0 < length (places_from lo n) → runs (places_from lo n) ≡ 1
one_run lo zero some = absurd (omega (arith, length-places lo 0))
one_run lo (suc n) some = runs_places lo n

-- the cells of one segment are one run
pub runs_in : (s : Seg) → 0 < length (cells_in s) → runs (cells_in s) ≡ 1
runs_in (seg.Known []) some = absurd (omega arith)
runs_in (seg.Known (b ∷ bases)) some = runs_known b bases
runs_in (seg.Target lo hi) some = one_run lo (hi - lo) some

none_or_some : (z : List Cell) → (0 < length z → runs z ≡ 1) → runs z ≤ 1
none_or_some [] one = omega arith
none_or_some (c ∷ z) one = let e : runs (c ∷ z) ≡ 1 = one (omega arith) in omega arith

-- and no more than one
pub runs_in_most : (s : Seg) → runs (cells_in s) ≤ 1
runs_in_most s = none_or_some (cells_in s) (runs_in s)

-- two segments are two runs where they are of two kinds, or of places that do not follow each other
pub known_then_places : (bases : List Base) (lo n : ℕ) → 0 < length (map Known bases) → 0 < length (places_from lo n) → runs (map Known bases ++ places_from lo n) ≡ 2
unfolding places_from
known_then_places [] lo n first second = absurd (omega arith)
known_then_places (b ∷ bases) lo zero first second = absurd (omega arith)
known_then_places (b ∷ bases) lo (suc n) first second = known_before b bases lo (places_from (lo + 1) n) ∙ ap (λ k. 1 + k) (runs_places lo n)

pub places_then_known : (lo n : ℕ) (bases : List Base) → 0 < length (places_from lo n) → 0 < length (map Known bases) → runs (places_from lo n ++ map Known bases) ≡ 2
unfolding places_from
places_then_known lo n [] first second = absurd (omega arith)
places_then_known lo zero (b ∷ bases) first second = absurd (omega arith)
places_then_known lo (suc n) (b ∷ bases) first second = places_before_known lo n b (map Known bases) ∙ ap (λ k. 1 + k) (runs_known b bases)

pub places_apart : (lo n from m : ℕ) → 0 < length (places_from lo n) → 0 < length (places_from from m) → lo + n ≢ from → runs (places_from lo n ++ places_from from m) ≡ 2
unfolding places_from
places_apart lo zero from m first second apart = absurd (omega arith)
places_apart lo (suc n) from zero first second apart = absurd (omega arith)
places_apart lo (suc n) from (suc m) first second apart = places_before lo n from (places_from (from + 1) m) apart ∙ ap (λ k. 1 + k) (runs_places from m)

-- the same by what the segments are
pub apart_kinds : (s o : Seg) (bases : List Base) (lo hi : ℕ) → s ≡ seg.Known bases → o ≡ seg.Target lo hi
    → 0 < length (cells_in s) → 0 < length (cells_in o) → runs (cells_in s ++ cells_in o) ≡ 2
apart_kinds s o bases lo hi p q =
    let P : Seg → Seg → Type 0 = λ a b. 0 < length (cells_in a) → 0 < length (cells_in b) → runs (cells_in a ++ cells_in b) ≡ 2 in
    subst (λ a. P a o) (sym p) (subst (λ b. P (seg.Known bases) b) (sym q) (known_then_places bases lo (hi - lo)))

pub apart_kinds_turned : (s o : Seg) (bases : List Base) (lo hi : ℕ) → s ≡ seg.Target lo hi → o ≡ seg.Known bases
    → 0 < length (cells_in s) → 0 < length (cells_in o) → runs (cells_in s ++ cells_in o) ≡ 2
apart_kinds_turned s o bases lo hi p q =
    let P : Seg → Seg → Type 0 = λ a b. 0 < length (cells_in a) → 0 < length (cells_in b) → runs (cells_in a ++ cells_in b) ≡ 2 in
    subst (λ a. P a o) (sym p) (subst (λ b. P (seg.Target lo hi) b) (sym q) (places_then_known lo (hi - lo) bases))
