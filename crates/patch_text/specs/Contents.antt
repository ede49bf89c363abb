-- What a patch file holds, and the bounds that it keeps.
use Rattle.std.specs.Prelude.{ℕ, ◌^◌, ◌&&◌, Bool, List, [], ◌∷◌, ◌++◌, length, nat_le}
use Rattle.std.specs.List.{flat_map, list_all}
use Rattle.fuun_base.specs.declared.letters.Base.{Base}
use Rattle.patch_text.specs.declared.rows.PatchRow.{PatchRow}
use Rattle.patch_text.specs.declared.rows.PatchRow.TheVariants.{Edit, Copy, Move}

-- the length of the DNA that the rows are for, and the rows
pub record Contents : Type 0 where
  pub stated : ℕ
  pub rows : List PatchRow

-- no rows
abbrev pub no_rows : ℕ → Contents
no_rows stated = record { stated = stated; rows = [] }

-- one row more, at the end
abbrev pub with_row : Contents → PatchRow → Contents
with_row contents row = record { stated = contents.stated; rows = contents.rows ++ row ∷ [] }

-- no number of a row is above 2^40
abbrev pub has_small_numbers : PatchRow → Bool
has_small_numbers (Edit place cut put) = nat_le place (2 ^ 40) && nat_le cut (2 ^ 40)
has_small_numbers (Copy source count target) = (nat_le source (2 ^ 40) && nat_le count (2 ^ 40)) && nat_le target (2 ^ 40)
has_small_numbers (Move source count target) = (nat_le source (2 ^ 40) && nat_le count (2 ^ 40)) && nat_le target (2 ^ 40)

-- the bases that a row puts of its own
abbrev pub put_of : PatchRow → List Base
put_of (Edit place cut put) = put
put_of (Copy source count target) = []
put_of (Move source count target) = []

-- the bases that rows put of their own, joined
abbrev pub puts_of : List PatchRow → List Base
puts_of rows = flat_map put_of rows

-- the bounds of a patch file: numbers up to 2^40, 2^26 rows, and 2^26 bases in all puts together
unfoldable pub is_bounded : Contents → Bool
is_bounded contents =
    (nat_le contents.stated (2 ^ 40) && list_all has_small_numbers contents.rows)
    && (nat_le (length contents.rows) (2 ^ 26) && nat_le (length (puts_of contents.rows)) (2 ^ 26))
