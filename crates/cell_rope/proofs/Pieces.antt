-- Cells of stretches and of joined trees.
use Rattle.std.proofs.Common.{◌≡◌, ℕ, zero, suc, ◌+◌, ◌-◌, ◌≤◌, true, false, List, [], ◌∷◌, ◌++◌, length, take, drop, map, slice_range, refl, arith, ap, sym, ◌∙◌, length-drop}
use Rattle.std.proofs.lemmas.List.{length-map, take_all, map-append}
use Rattle.fuun_base.specs.declared.letters.Base.{Base}
use Rattle.sym_strand.specs.declared.cells.Cell.{Cell}
use Rattle.sym_strand.specs.declared.cells.Cell.TheVariants.{Known, Target}
use Rattle.sym_strand.specs.Cells.{all_known, places_from}
use Rattle.sym_strand.proofs.Places.{length-places, same_places, append-places, range-places}
use Rattle.sym_strand.proofs.CellLemmas.{range-known}
use Rattle.rope_core.proofs.Cuts.{range_over, range_past}

-- behind cells that are known, or not
pub known_behind : (x y : List Cell) → all_known x ≡ true → all_known (x ++ y) ≡ all_known y
known_behind [] y known = refl
known_behind (Known b ∷ x) y known = known_behind x y known
known_behind (Target place ∷ x) y known = cc

pub unknown_behind : (x y : List Cell) → all_known x ≡ false → all_known (x ++ y) ≡ false
unknown_behind [] y known = cc
unknown_behind (Known b ∷ x) y known = unknown_behind x y known
unknown_behind (Target place ∷ x) y known = refl

pub bases_known : (bases : List Base) → all_known (map Known bases) ≡ true
bases_known [] = refl
bases_known (b ∷ bases) = bases_known bases

-- a range of the target is known where it is empty
pub no_places_known : (lo n : ℕ) → n ≡ 0 → all_known (places_from lo n) ≡ true
unfolding places_from
no_places_known lo zero none = refl
no_places_known lo (suc n) none = absurd (omega arith)

pub places_unknown : (lo n : ℕ) → 1 ≤ n → all_known (places_from lo n) ≡ false
unfolding places_from
places_unknown lo zero some = absurd (omega arith)
places_unknown lo (suc n) some = refl

pub ruleset pieces = (length-places, length-map, map-append, known_behind, unknown_behind, bases_known, no_places_known, places_unknown)

-- neighbouring ranges of the target
pub places_joined : (lo seam from hi : ℕ) → seam ≡ from → lo ≤ seam → from ≤ hi → places_from lo (seam - lo) ++ places_from from (hi - from) ≡ places_from lo (hi - lo)
places_joined lo seam from hi is low high =
    ap (λ z. places_from lo (seam - lo) ++ z) (same_places from (lo + (seam - lo)) (hi - from) (hi - from) (omega arith) (omega arith))
    ∙ append-places lo (seam - lo) (hi - from)
    ∙ same_places lo lo (seam - lo + (hi - from)) (hi - lo) (omega arith) (omega arith)

-- a range of a range of the target
pub places_cut : (from to lo hi : ℕ) → lo ≤ hi → hi ≤ to - from → places_from (from + lo) (from + hi - (from + lo)) ≡ slice_range (places_from from (to - from)) lo hi
places_cut from to lo hi order within =
    same_places (from + lo) (from + lo) (from + hi - (from + lo)) (hi - lo) (omega arith) (omega arith)
    ∙ sym (range-places from (to - from) lo hi order within)

-- a range over the seam of two lists
pub range_both : {A : Type 0} → (l r : List A) (lo hi seam : ℕ) → seam ≡ length l → lo ≤ seam → seam ≤ hi
    → slice_range (l ++ r) lo hi ≡ slice_range l lo seam ++ slice_range r 0 (hi - seam)
range_both l r lo hi seam here before past =
    let left : slice_range l lo seam ≡ drop lo l = take_all (seam - lo) (drop lo l) (omega (arith, length-drop lo l)) in
    let size : hi - seam - 0 ≡ hi - length l = omega arith in
    let right : slice_range r 0 (hi - seam) ≡ take (hi - length l) r = ap (λ n. take n r) size in
    range_over lo hi l r (omega arith) (omega arith)
    ∙ ap (λ x. x ++ take (hi - length l) r) (sym left)
    ∙ ap (λ x. slice_range l lo seam ++ x) (sym right)

pub ruleset met = (map-append, places_joined, length-places)

pub ruleset cuts = (length-places, length-map, range-known, places_cut, range_both, range_past)
