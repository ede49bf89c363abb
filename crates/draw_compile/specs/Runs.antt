-- The runs of a picture: longest stretches of equal pixels in one row.
use Rattle.std.specs.Prelude.{ℕ, ◌+◌, ◌*◌, ◌==◌, ◌&&◌, if◌then◌else◌, Bool, List, [], ◌∷◌, map, take, drop}
use Rattle.std.specs.List.{range_with_len}
use Rattle.picture_in.specs.Pixmap.{Rgb}
use Rattle.draw_compile.specs.declared.runs.Run.{Run}

-- two pixels are equal
abbrev pub same : Rgb → Rgb → Bool
same p q = p.0 == q.0 && (p.1 == q.1 && p.2 == q.2)

abbrev pub one_of : Rgb → Run
one_of p = record { pixel = p; len = 1 }

-- the runs behind a further pixel
abbrev pub with_pixel : Rgb → List Run → List Run
with_pixel p [] = one_of p ∷ []
with_pixel p (run ∷ runs) =
    if same p run.pixel then record { pixel = p; len = run.len + 1 } ∷ runs
    else one_of p ∷ run ∷ runs

-- the runs of a row, from the west
abbrev pub runs_of : List Rgb → List Run
runs_of [] = []
runs_of (p ∷ row) = with_pixel p (runs_of row)

-- a row of a picture with rows of so many pixels
unfoldable pub row_at : ℕ → List Rgb → ℕ → List Rgb
row_at side picture y = take side (drop (y * side) picture)

-- the runs of so many rows from one on, row by row
unfoldable pub runs_from : ℕ → List Rgb → ℕ → ℕ → List (List Run)
runs_from side picture y count = map (λ k. runs_of (row_at side picture k)) (range_with_len y count)
