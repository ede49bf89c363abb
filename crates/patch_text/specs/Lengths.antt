-- Which rows fit a DNA, by its length alone.
use Rattle.std.specs.Prelude.{◌≡◌, ℕ, ◌+◌, ◌-◌, ◌&&◌, Bool, true, false, List, [], ◌∷◌, ◌++◌, length, nat_le}
use Rattle.patch_text.specs.declared.rows.PatchRow.{PatchRow}
use Rattle.patch_text.specs.declared.rows.PatchRow.TheVariants.{Edit, Copy, Move}
use Rattle.patch_text.specs.Contents.{Contents}

-- a row fits a DNA of n bases: what it names lies within it, and the target of a move within what the move leaves
abbrev pub fits : ℕ → PatchRow → Bool
fits n (Edit place cut put) = nat_le (place + cut) n
fits n (Copy source count target) = nat_le (source + count) n && nat_le target n
fits n (Move source count target) = nat_le (source + count) n && nat_le target (n - count)

-- how many bases a DNA of n bases has after a row that fits it
abbrev pub length_after : ℕ → PatchRow → ℕ
length_after n (Edit place cut put) = n - cut + length put
length_after n (Copy source count target) = n + count
length_after n (Move source count target) = n

-- and after rows, one after the other
abbrev pub length_behind : ℕ → List PatchRow → ℕ
length_behind n [] = n
length_behind n (row ∷ rows) = length_behind (length_after n row) rows

-- each row fits the DNA that those before it leave
abbrev pub AllFit : ℕ → List PatchRow → Type 0
AllFit n [] = Unit {0}
AllFit n (row ∷ rows) = (fits n row ≡ true) × AllFit (length_after n row) rows

-- the row of this number, counted from 1, is the first that does not fit
pub record IsOutside (contents : Contents) (number : ℕ) : Type 0 where
  pub earlier : List PatchRow
  pub row : PatchRow
  pub later : List PatchRow
  pub whole : contents.rows ≡ earlier ++ row ∷ later
  pub counted : number ≡ length earlier + 1
  pub before : AllFit contents.stated earlier
  pub outside : fits (length_behind contents.stated earlier) row ≡ false
