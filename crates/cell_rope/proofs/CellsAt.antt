-- A cell of a leaf, and of joined cells.
use Rattle.std.proofs.Common.{◌≡◌, ℕ, zero, suc, ◌+◌, ◌-◌, ◌<◌, ◌≤◌, Some, List, [], ◌∷◌, ◌++◌, length, map, arith, ap, ◌∙◌}
use Rattle.std.specs.Prelude.{slice_get}
use Rattle.fuun_base.specs.declared.letters.Base.{Base}
use Rattle.sym_strand.specs.declared.cells.Cell.{Cell}
use Rattle.sym_strand.specs.declared.cells.Cell.TheVariants.{Known, Target}
use Rattle.sym_strand.specs.Cells.{places_from}
use Rattle.sym_strand.proofs.Places.{length-places, get-places}
use Rattle.sym_strand.proofs.CellLemmas.{get_front, get_behind}

pub known_at : (bases : List Base) (k : ℕ) (b : Base) → slice_get bases k ≡ Some b → slice_get (map Known bases) k ≡ Some (Known b)
known_at [] k b there = cc
known_at (c ∷ bases) zero b there = cc
known_at (c ∷ bases) (suc k) b there = known_at bases k b there

pub place_at : (lo hi k : ℕ) → k < length (places_from lo (hi - lo)) → slice_get (places_from lo (hi - lo)) k ≡ Some (Target (lo + k))
place_at lo hi k inside = get-places k lo (hi - lo) (omega (arith, length-places lo (hi - lo)))

pub left_at : (x y : List Cell) (k : ℕ) (c : Cell) → k < length x → slice_get x k ≡ Some c → slice_get (x ++ y) k ≡ Some c
left_at x y k c inside there = get_front x y k inside ∙ there

pub right_at : (x y : List Cell) (k seam : ℕ) (c : Cell) → seam ≡ length x → seam ≤ k → slice_get y (k - seam) ≡ Some c → slice_get (x ++ y) k ≡ Some c
right_at x y k seam c here past there = get_behind x y k (omega arith) ∙ ap (λ n. slice_get y (k - n)) (let e : length x ≡ seam = omega arith in e) ∙ there

pub ruleset cells_at = (known_at, place_at, left_at, right_at, length-places)
