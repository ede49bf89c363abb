-- Rows of a picture, one after another.
use Rattle.std.proofs.Common.{◌≡◌, ℕ, suc, ◌+◌, ◌-◌, ◌*◌, ◌<◌, ◌≤◌, List, [], ◌∷◌, drop, refl, ap, ◌∙◌, arith, length-take}
use Rattle.std.proofs.lemmas.List.{drop_all}
use Rattle.picture_in.specs.Pixmap.{Rgb}
use Rattle.draw_compile.specs.Runs.{row_at, runs_from, runs_of}

pub runs_from-more : (side : ℕ) (picture : List Rgb) (y n : ℕ) → runs_from side picture y (suc n) ≡ runs_of (row_at side picture y) ∷ runs_from side picture (y + 1) n
unfolding runs_from
runs_from-more side picture y n = refl

-- the next row and those behind it
pub next_row : (side : ℕ) (picture : List Rgb) (y all : ℕ) → y < all → runs_from side picture y (all - y) ≡ runs_of (row_at side picture y) ∷ runs_from side picture (y + 1) (all - (y + 1))
next_row side picture y all before =
    let left : all - y ≡ suc (all - (y + 1)) = omega arith in
    ap (runs_from side picture y) left ∙ runs_from-more side picture y (all - (y + 1))

-- no row is left
pub no_row : (side : ℕ) (picture : List Rgb) (y all : ℕ) → all ≤ y → runs_from side picture y (all - y) ≡ []
unfolding runs_from
no_row side picture y all past =
    let none : all - y ≡ 0 = omega arith in
    rw none refl

-- no pixel of a row is left
pub no_run : (side : ℕ) (picture : List Rgb) (y x : ℕ) → side ≤ x → runs_of (drop x (row_at side picture y)) ≡ []
unfolding row_at
no_run side picture y x past =
    ap runs_of (drop_all x (row_at side picture y) (omega (arith, length-take side (drop (y * side) picture))))
