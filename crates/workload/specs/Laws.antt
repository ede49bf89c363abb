-- What holds of the load of each seed, and of marks.
use Rattle.std.specs.Prelude.{◌≡◌, ℕ, ◌+◌, ◌*◌, ◌≤◌, ◌&&◌, Bool, true, false, List, ◌++◌, length, nat_le, take}
use Rattle.std.specs.List.{list_all}
use Rattle.fuun_base.specs.declared.letters.Base.{Base}
use Rattle.patch_text.specs.declared.rows.PatchRow.{PatchRow}
use Rattle.patch_text.specs.declared.rows.PatchRow.TheVariants.{Edit, Copy, Move}
use Rattle.patch_text.specs.Lengths.{AllFit, length_behind}
use Rattle.workload.specs.Load.{target_of, patches_of}
use Rattle.workload.specs.Mark.{mark_behind}

-- a row cuts at most 15 bases, at a place not above `most`, and puts at most seven
abbrev pub is_light : ℕ → PatchRow → Bool
is_light most (Edit place cut put) = nat_le place most && (nat_le cut 15 && nat_le (length put) 7)
is_light most (Copy source count target) = false
is_light most (Move source count target) = false

-- a target has the bases asked for
abbrev pub TargetIsCounted : Type 0
TargetIsCounted = (seed size : ℕ) → length (target_of seed size) ≡ size

-- there is one row a round
abbrev pub RowsAreCounted : Type 0
RowsAreCounted = (seed size rounds : ℕ) → length (patches_of seed size rounds).rows ≡ rounds

-- each row fits the DNA that those before it leave
abbrev pub RowsFit : Type 0
RowsFit = (seed size rounds : ℕ) → AllFit size (patches_of seed size rounds).rows

-- each row is light, with its place within the greatest length that there can be
abbrev pub RowsAreLight : Type 0
RowsAreLight = (seed size rounds : ℕ) → list_all (is_light (size + 7 * rounds)) (patches_of seed size rounds).rows ≡ true

-- rows make the DNA longer by at most seven bases each
abbrev pub LengthsStay : Type 0
LengthsStay = (seed size rounds made : ℕ) → length_behind size (take made (patches_of seed size rounds).rows) ≤ size + 7 * rounds

-- the mark of joined lists goes on from the first list's
abbrev pub MarkGoesOn : Type 0
MarkGoesOn = (mark : ℕ) (a b : List Base) → mark_behind mark (a ++ b) ≡ mark_behind (mark_behind mark a) b
