-- How long a DNA is that a row leaves.
use Rattle.std.proofs.Common.{◌≡◌, ℕ, ◌+◌, ◌-◌, ◌≤◌, true, List, ◌++◌, length, take, drop, nat_le, arith, length-append, length-drop}
use Rattle.std.specs.Prelude.{slice_range}
use Rattle.std.proofs.lemmas.Bool.{and_parts, leb-true}
use Rattle.std.proofs.lemmas.List.{length-take-le}
use Rattle.fuun_base.specs.declared.letters.Base.{Base}
use Rattle.fuun_base.proofs.Ranges.{length-range}
use Rattle.patch_text.specs.declared.rows.PatchRow.{PatchRow}
use Rattle.patch_text.specs.declared.rows.PatchRow.TheVariants.{Edit, Copy, Move}
use Rattle.patch_text.specs.Lengths.{fits, length_after}
use Rattle.patch_compile.specs.Splice.{splice, with_put, without}

length-with_put : (d put : List Base) (place : ℕ) → place ≤ length d → length (with_put d place put) ≡ length d + length put
length-with_put d put place within =
    omega (arith, within, length-append (take place d) (put ++ drop place d), length-append put (drop place d), length-take-le place d within, length-drop place d)

length-without : (d : List Base) (start count : ℕ) → start + count ≤ length d → length (without d start (start + count)) ≡ length d - count
length-without d start count within =
    let low : start ≤ length d = omega (arith, within) in
    omega (arith, within, length-append (take start d) (drop (start + count) d), length-take-le start d low, length-drop (start + count) d)

pub length-splice : (row : PatchRow) (d : List Base) → fits (length d) row ≡ true → length (splice d row) ≡ length_after (length d) row
length-splice (Edit place cut put) d fit =
    let within : place + cut ≤ length d = leb-true (place + cut) (length d) fit in
    let low : place ≤ length d = omega (arith, within) in
    omega (arith, within, length-append (take place d) (put ++ drop (place + cut) d), length-append put (drop (place + cut) d), length-take-le place d low, length-drop (place + cut) d)
length-splice (Copy source count target) d fit =
    let (range, there) = and_parts (nat_le (source + count) (length d)) (nat_le target (length d)) fit in
    let within : source + count ≤ length d = leb-true (source + count) (length d) range in
    omega (arith, length-with_put d (slice_range d source (source + count)) target (leb-true target (length d) there), length-range d source (source + count) within)
length-splice (Move source count target) d fit =
    let (range, there) = and_parts (nat_le (source + count) (length d)) (nat_le target (length d - count)) fit in
    let within : source + count ≤ length d = leb-true (source + count) (length d) range in
    let rest : length (without d source (source + count)) ≡ length d - count = length-without d source count within in
    let low : target ≤ length (without d source (source + count)) = omega (arith, rest, leb-true target (length d - count) there) in
    omega (arith, within, rest, length-with_put (without d source (source + count)) (slice_range d source (source + count)) target low, length-range d source (source + count) within)
