-- The known front of joined cells.
use Rattle.std.proofs.Common.{◌≡◌, ℕ, zero, suc, true, false, List, [], ◌∷◌, ◌++◌, map, refl, ap, length, ◌≤◌, arith, length-append}
use Rattle.fuun_base.specs.declared.letters.Base.{Base}
use Rattle.sym_strand.specs.declared.cells.Cell.{Cell}
use Rattle.sym_strand.specs.declared.cells.Cell.TheVariants.{Known, Target}
use Rattle.sym_strand.specs.Cells.{all_known, known_front, places_from}

pub front_behind : (x y : List Cell) → all_known x ≡ true → known_front (x ++ y) ≡ known_front x ++ known_front y
front_behind [] y known = refl
front_behind (Known b ∷ x) y known = ap (λ l. b ∷ l) (front_behind x y known)
front_behind (Target place ∷ x) y known = cc

pub front_before : (x y : List Cell) → all_known x ≡ false → known_front (x ++ y) ≡ known_front x
front_before [] y known = cc
front_before (Known b ∷ x) y known = ap (λ l. b ∷ l) (front_before x y known)
front_before (Target place ∷ x) y known = refl

pub front_bases : (bases : List Base) → known_front (map Known bases) ≡ bases
front_bases [] = refl
front_bases (b ∷ bases) = ap (λ l. b ∷ l) (front_bases bases)

pub front_places : (lo n : ℕ) → known_front (places_from lo n) ≡ []
unfolding places_from
front_places lo zero = refl
front_places lo (suc n) = refl

pub front_most : (z : List Cell) → length (known_front z) ≤ length z
front_most [] = omega arith
front_most (Known b ∷ z) = omega (arith, front_most z)
front_most (Target place ∷ z) = omega arith

pub ruleset fronts = (front_behind, front_before, front_bases, front_places, front_most, length-append)
