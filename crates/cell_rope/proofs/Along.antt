-- Stretches of joined cells.
use Rattle.std.proofs.Common.{◌≡◌, ℕ, ◌+◌, ◌-◌, ◌<◌, ◌≤◌, List, [], ◌++◌, length, drop, map, refl, arith, ap, sym, ◌∙◌, append_assoc, append-nil}
use Rattle.std.proofs.lemmas.List.{length-map, length-drop, drop-map, drop-append-le}
use Rattle.sym_strand.specs.declared.cells.Cell.{Cell}
use Rattle.sym_strand.specs.Cells.{places_from}
use Rattle.sym_strand.proofs.Places.{length-places, same_places, drop-places}
use Rattle.rope_core.proofs.Cuts.{drop_past}
use Rattle.cell_rope.specs.Stretches.{cells_along, BeginsWith}
use Rattle.cell_rope.specs.declared.stretches.Stretch.{Stretch}

-- what begins with a stretch does so too where more stands behind it
pub begins_left : (l r : List Cell) (place : ℕ) (stretch : Stretch) → place < length l → BeginsWith (drop place l) stretch → BeginsWith (drop place (l ++ r)) stretch
begins_left l r place stretch inside x = record {
  some = x.some;
  rest = x.rest ++ r;
  cells = drop-append-le place l r (omega arith) ∙ ap (λ z. z ++ r) x.cells ∙ append_assoc (cells_along stretch) x.rest r;
}

pub begins_right : (l r : List Cell) (place seam : ℕ) (stretch : Stretch) → seam ≡ length l → seam ≤ place → BeginsWith (drop (place - seam) r) stretch → BeginsWith (drop place (l ++ r)) stretch
begins_right l r place seam stretch here past x = record {
  some = x.some;
  rest = x.rest;
  cells = drop_past place l r (omega arith) ∙ ap (λ n. drop (place - n) r) (sym here) ∙ x.cells;
}

-- a leaf
pub begins_all : (z : List Cell) (stretch : Stretch) → z ≡ cells_along stretch → 0 < length z → BeginsWith z stretch
begins_all z stretch is some = record {
  some = omega (arith, ap length is);
  rest = [];
  cells = is ∙ sym (append-nil (cells_along stretch));
}

pub places_behind : (lo hi place : ℕ) → place < length (places_from lo (hi - lo)) → drop place (places_from lo (hi - lo)) ≡ places_from (lo + place) (hi - (lo + place))
places_behind lo hi place inside = drop-places place lo (hi - lo) ∙ same_places (lo + place) (lo + place) (hi - lo - place) (hi - (lo + place)) refl (omega arith)

pub ruleset along = (begins_left, begins_right, begins_all, places_behind, drop-map, length-drop, length-map, length-places)
