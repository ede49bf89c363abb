-- Which row of a patch file is the first that does not fit.
use Rattle.std.specs.Prelude.{◌≡◌, ℕ, ◌+◌, if◌then◌else◌, Option, Some, None, MatchOption, List, [], ◌∷◌}
use Rattle.patch_text.specs.declared.rows.PatchRow.{PatchRow}
use Rattle.patch_text.specs.Contents.{Contents}
use Rattle.patch_text.specs.Lengths.{fits, length_after, AllFit, IsOutside}

-- the number of the first row that does not fit, where the rows are numbered from this number on
abbrev pub outside_from : ℕ → ℕ → List PatchRow → Option ℕ
outside_from number n [] = None
outside_from number n (row ∷ rows) = if fits n row then outside_from (number + 1) (length_after n row) rows else Some number

-- the number of the first row that does not fit, counted from 1
abbrev pub outside : Contents → Option ℕ
outside contents = outside_from 1 contents.stated contents.rows

-- either all rows fit, or this is the first that does not
abbrev pub OutsideIsFirst : Type 0
OutsideIsFirst = (contents : Contents) → MatchOption (outside contents) (AllFit contents.stated contents.rows) (IsOutside contents)

-- all rows fit only where there is none
abbrev pub FitHasNoOutside : Type 0
FitHasNoOutside = (contents : Contents) → AllFit contents.stated contents.rows → outside contents ≡ None

-- and it is the only one
abbrev pub OutsideIsOne : Type 0
OutsideIsOne = (contents : Contents) (number : ℕ) → IsOutside contents number → outside contents ≡ Some number
