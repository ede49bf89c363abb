-- How long the DNA of a picture is.
use Rattle.std.specs.Prelude.{◌≡◌, ℕ, ◌+◌, ◌*◌, if◌then◌else◌, Option, Some, None, List, [], ◌∷◌, length}
use Rattle.picture_in.specs.Pixmap.{Rgb, IsPicture}
use Rattle.draw_compile.specs.declared.runs.Run.{Run}
use Rattle.draw_compile.specs.Runs.{runs_from}
use Rattle.draw_compile.specs.Drawing.{drawing, last_pixel, needs_filling}

-- how many runs some rows have
abbrev pub run_count : List (List Run) → ℕ
run_count [] = 0
run_count (runs ∷ rows) = length runs + run_count rows

-- for how many runs of a row the bucket is filled
abbrev pub row_fillings : Option Rgb → List Run → ℕ
row_fillings before [] = 0
row_fillings before (run ∷ runs) = (if needs_filling before run.pixel then 1 else 0) + row_fillings (Some run.pixel) runs

-- and for how many of some rows
abbrev pub filling_count : Option Rgb → List (List Run) → ℕ
filling_count before [] = 0
filling_count before (runs ∷ rows) = row_fillings before runs + filling_count (last_pixel before runs) rows

-- the length by the number of runs and of fillings
abbrev pub length_for : ℕ → ℕ → ℕ
length_for runs fillings = 10 * (256 * fillings + 2 * runs + 361800)

-- the length of the DNA that draws a picture
abbrev pub LengthByRuns : Type 0
LengthByRuns =
    (picture : List Rgb) → IsPicture picture
    → length (drawing picture) ≡ length_for (run_count (runs_from 600 picture 0 600)) (filling_count None (runs_from 600 picture 0 600))
