-- What rows make of a DNA.
use Rattle.std.specs.Prelude.{ℕ, ◌+◌, List, [], ◌∷◌, ◌++◌, take, drop, slice_range}
use Rattle.fuun_base.specs.declared.letters.Base.{Base}
use Rattle.patch_text.specs.declared.rows.PatchRow.{PatchRow}
use Rattle.patch_text.specs.declared.rows.PatchRow.TheVariants.{Edit, Copy, Move}

-- a DNA without the bases from a place up to another
abbrev pub without : List Base → ℕ → ℕ → List Base
without d start stop = take start d ++ drop stop d

-- a DNA with bases put in at a place
abbrev pub with_put : List Base → ℕ → List Base → List Base
with_put d place put = take place d ++ (put ++ drop place d)

-- the DNA that a row leaves
abbrev pub splice : List Base → PatchRow → List Base
splice d (Edit place cut put) = take place d ++ (put ++ drop (place + cut) d)
splice d (Copy source count target) = with_put d target (slice_range d source (source + count))
splice d (Move source count target) = with_put (without d source (source + count)) target (slice_range d source (source + count))

-- the DNA that rows leave, one after the other
abbrev pub patched : List Base → List PatchRow → List Base
patched d [] = d
patched d (row ∷ rows) = patched (splice d row) rows
