-- How many commands draw a picture, and that each has seven bases.
use Rattle.std.proofs.Common.{◌≡◌, ℕ, zero, suc, ◌+◌, ◌-◌, ◌*◌, ◌≤◌, Bool, true, false, Option, Some, None, List, [], ◌∷◌, ◌++◌, length, drop, map, refl, ap, arith, length-append, length-drop}
use Rattle.std.specs.Prelude.{nat_lt, if◌then◌else◌, replicate}
use Rattle.std.specs.List.{range_with_len}
use Rattle.std.proofs.lemmas.List.{length-replicate}
use Rattle.std.proofs.lemmas.List.FromFn.{length-map-range_with_len}
use Rattle.fuun_base.specs.declared.letters.Base.{Base}
use Rattle.picture_in.specs.Pixmap.{Rgb}
use Rattle.draw_compile.specs.declared.runs.Run.{Run}
use Rattle.draw_compile.specs.Runs.{row_at, runs_from, runs_of}
use Rattle.draw_compile.specs.Drawing.{code, codes_of, colour_command, commands_of, drawing, draw_line, empty_bucket, filling, ink_command, inks, last_pixel, move, needs_filling, row_commands, run_commands, set_mark}
use Rattle.draw_compile.specs.Lengths.{LengthByRuns, filling_count, row_fillings, run_count}
use Rattle.draw_compile.proofs.RunLemmas.{Covers, covers, length-row_at}

-- each command has seven bases
abbrev pub AreWhole : List (List Base) → Type 0
AreWhole [] = Unit {0}
AreWhole (command ∷ commands) = (length command ≡ 7) × AreWhole commands

whole-append : (first last : List (List Base)) → AreWhole first → AreWhole last → AreWhole (first ++ last)
whole-append [] last whole others = others
whole-append (command ∷ first) last whole others = (whole.0, whole-append first last whole.1 others)

whole-colour : (red green blue : Bool) → length (colour_command red green blue) ≡ 7
whole-colour false false false = refl
whole-colour true false false = refl
whole-colour false true false = refl
whole-colour true true false = refl
whole-colour false false true = refl
whole-colour true false true = refl
whole-colour false true true = refl
whole-colour true true true = refl

whole-map : (p : Rgb) (ks : List ℕ) → AreWhole (map (ink_command p) ks)
whole-map p [] = tt
whole-map p (k ∷ ks) = (whole-colour (nat_lt k p.0) (nat_lt k p.1) (nat_lt k p.2), whole-map p ks)

whole-inks : (p : Rgb) (count : ℕ) → AreWhole (inks p count)
unfolding inks
whole-inks p count = whole-map p (range_with_len 0 count)

length-inks : (p : Rgb) (count : ℕ) → length (inks p count) ≡ count
unfolding inks
length-inks p count = length-map-range_with_len (ink_command p) 0 count

whole-replicate : (count : ℕ) → AreWhole (replicate count move)
whole-replicate zero = tt
whole-replicate (suc count) = (refl, whole-replicate count)

whole-filling : (before : Option Rgb) (p : Rgb) (b : Bool) → AreWhole (if b then empty_bucket ∷ inks p 255 else [])
whole-filling before p true = (refl, whole-inks p 255)
whole-filling before p false = tt

whole-run : (before : Option Rgb) (run : Run) → AreWhole (run_commands before run)
whole-run before run =
    whole-append (filling before run.pixel) (set_mark ∷ (replicate (run.len - 1) move ++ (draw_line ∷ move ∷ [])))
    (whole-filling before run.pixel (needs_filling before run.pixel))
    (refl, whole-append (replicate (run.len - 1) move) (draw_line ∷ move ∷ []) (whole-replicate (run.len - 1)) (refl, (refl, tt)))

whole-row : (before : Option Rgb) (runs : List Run) → AreWhole (row_commands before runs)
whole-row before [] = (refl, (refl, (refl, tt)))
whole-row before (run ∷ runs) = whole-append (run_commands before run) (row_commands (Some run.pixel) runs) (whole-run before run) (whole-row (Some run.pixel) runs)

pub whole-commands : (before : Option Rgb) (rows : List (List Run)) → AreWhole (commands_of before rows)
whole-commands before [] = tt
whole-commands before (runs ∷ rows) = whole-append (row_commands before runs) (commands_of (last_pixel before runs) rows) (whole-row before runs) (whole-commands (last_pixel before runs) rows)

length-codes : (commands : List (List Base)) → AreWhole commands → length (codes_of commands) ≡ 10 * length commands
length-codes [] whole = refl
length-codes (command ∷ commands) whole = omega (arith, whole.0, length-append (code command) (codes_of commands), length-codes commands whole.1)

-- how many commands

length-filling : (p : Rgb) (b : Bool) → length (if b then empty_bucket ∷ inks p 255 else []) ≡ 256 * (if b then 1 else 0)
length-filling p true = omega (arith, length-inks p 255)
length-filling p false = refl

length-run : (before : Option Rgb) (run : Run) → 1 ≤ run.len → length (run_commands before run) ≡ 256 * (if needs_filling before run.pixel then 1 else 0) + run.len + 2
length-run before run some =
    omega (
      arith,
      length-append (filling before run.pixel) (set_mark ∷ (replicate (run.len - 1) move ++ (draw_line ∷ move ∷ []))),
      length-filling run.pixel (needs_filling before run.pixel),
      length-append (replicate (run.len - 1) move) (draw_line ∷ move ∷ []),
      length-replicate (run.len - 1) move,
    )

length-row : (before : Option Rgb) (runs : List Run) (row : List Rgb) → Covers runs row → length (row_commands before runs) ≡ 256 * row_fillings before runs + 2 * length runs + length row + 3
length-row before [] row covers = let none : length row ≡ 0 = ap length covers in omega arith
length-row before (run ∷ runs) row covers =
    let further = length-row (Some run.pixel) runs (drop run.len row) covers.3 in
    omega (
      arith,
      covers.1,
      length-append (run_commands before run) (row_commands (Some run.pixel) runs),
      length-run before run covers.0,
      length-drop run.len row,
      further,
    )

length-rows : (side : ℕ) (picture : List Rgb) (n y : ℕ) (before : Option Rgb) → (y + n) * side ≤ length picture
    → length (commands_of before (runs_from side picture y n)) ≡ 256 * filling_count before (runs_from side picture y n) + 2 * run_count (runs_from side picture y n) + n * side + 3 * n
unfolding runs_from
length-rows side picture zero y before within = omega arith
length-rows side picture (suc n) y before within =
    let row : List Rgb = row_at side picture y in
    let runs : List Run = runs_of row in
    let next : (y + 1) * side ≤ length picture = omega arith in
    let further = length-rows side picture n (y + 1) (last_pixel before runs) (omega arith) in
    omega (
      arith,
      length-append (row_commands before runs) (commands_of (last_pixel before runs) (runs_from side picture (y + 1) n)),
      length-row before runs row (covers row),
      length-row_at side picture y next,
      further,
    )

pub length_by_runs : LengthByRuns
unfolding drawing
length_by_runs picture is =
    let rows : List (List Run) = runs_from 600 picture 0 600 in
    let count = length-rows 600 picture 600 0 None (omega (arith, is.filled)) in
    omega (arith, length-codes (commands_of None rows) (whole-commands None rows), count)
