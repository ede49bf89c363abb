-- The DNA that draws a picture: each run as a line of its colour.
use Rattle.std.specs.Prelude.{ℕ, ◌-◌, nat_lt, not, if◌then◌else◌, Bool, true, false, Option, Some, None, List, [], ◌∷◌, ◌++◌, flat_map, map, replicate}
use Rattle.std.specs.List.{range_with_len}
use Rattle.fuun_base.specs.declared.letters.Base.{Base}
use Rattle.fuun_base.specs.declared.letters.Base.TheVariants.{I, C, F, P}
use Rattle.picture_in.specs.Pixmap.{Rgb}
use Rattle.draw_compile.specs.declared.runs.Run.{Run}
use Rattle.draw_compile.specs.Runs.{same, runs_from}

-- the commands that are used, beside the colours
abbrev pub empty_bucket : List Base
empty_bucket = P ∷ I ∷ I ∷ P ∷ I ∷ C ∷ P ∷ []

abbrev pub set_mark : List Base
set_mark = P ∷ C ∷ C ∷ I ∷ F ∷ F ∷ P ∷ []

abbrev pub move : List Base
move = P ∷ I ∷ I ∷ I ∷ I ∷ I ∷ P ∷ []

abbrev pub draw_line : List Base
draw_line = P ∷ F ∷ F ∷ I ∷ C ∷ C ∷ P ∷ []

abbrev pub turn_clockwise : List Base
turn_clockwise = P ∷ F ∷ F ∷ F ∷ F ∷ F ∷ P ∷ []

abbrev pub turn_counterclockwise : List Base
turn_counterclockwise = P ∷ C ∷ C ∷ C ∷ C ∷ C ∷ P ∷ []

-- the command of the colour that has so much red, green and blue: all of it or none
abbrev pub colour_command : Bool → Bool → Bool → List Base
colour_command false false false = P ∷ I ∷ P ∷ I ∷ I ∷ I ∷ C ∷ []
colour_command true false false = P ∷ I ∷ P ∷ I ∷ I ∷ I ∷ P ∷ []
colour_command false true false = P ∷ I ∷ P ∷ I ∷ I ∷ C ∷ C ∷ []
colour_command true true false = P ∷ I ∷ P ∷ I ∷ I ∷ C ∷ F ∷ []
colour_command false false true = P ∷ I ∷ P ∷ I ∷ I ∷ C ∷ P ∷ []
colour_command true false true = P ∷ I ∷ P ∷ I ∷ I ∷ F ∷ C ∷ []
colour_command false true true = P ∷ I ∷ P ∷ I ∷ I ∷ F ∷ F ∷ []
colour_command true true true = P ∷ I ∷ P ∷ I ∷ I ∷ P ∷ C ∷ []

-- ink k of a pixel: its red is full where k is below the pixel's red, and so with green and blue
abbrev pub ink_command : Rgb → ℕ → List Base
ink_command p k = colour_command (nat_lt k p.0) (nat_lt k p.1) (nat_lt k p.2)

-- the inks of a pixel from 0 to count - 1
unfoldable pub inks : Rgb → ℕ → List (List Base)
inks p count = map (ink_command p) (range_with_len 0 count)

-- whether the bucket is to be filled for a pixel, behind a run of another or of the same, or behind none
abbrev pub needs_filling : Option Rgb → Rgb → Bool
needs_filling None p = true
needs_filling (Some before) p = not (same before p)

-- the commands that give the bucket the colour of a pixel
abbrev pub filling : Option Rgb → Rgb → List (List Base)
filling before p = if needs_filling before p then empty_bucket ∷ inks p 255 else []

-- the commands of a run: mark its west end, move to its east end, draw the line, and move on
abbrev pub run_commands : Option Rgb → Run → List (List Base)
run_commands before run =
    filling before run.pixel ++ (set_mark ∷ (replicate (run.len - 1) move ++ (draw_line ∷ move ∷ [])))

-- the commands of a row's runs, and then to the next row
abbrev pub row_commands : Option Rgb → List Run → List (List Base)
row_commands before [] = turn_clockwise ∷ move ∷ turn_counterclockwise ∷ []
row_commands before (run ∷ runs) = run_commands before run ++ row_commands (Some run.pixel) runs

-- the pixel of the last run, or of the one before
abbrev pub last_pixel : Option Rgb → List Run → Option Rgb
last_pixel before [] = before
last_pixel before (run ∷ runs) = last_pixel (Some run.pixel) runs

-- the commands of the rows
abbrev pub commands_of : Option Rgb → List (List Run) → List (List Base)
commands_of before [] = []
commands_of before (runs ∷ rows) = row_commands before runs ++ commands_of (last_pixel before runs) rows

-- a command as DNA
abbrev pub code : List Base → List Base
code command = I ∷ I ∷ I ∷ command

abbrev pub codes_of : List (List Base) → List Base
codes_of commands = flat_map code commands

-- the DNA that draws a picture of 600 by 600
unfoldable pub drawing : List Rgb → List Base
drawing picture = codes_of (commands_of None (runs_from 600 picture 0 600))
