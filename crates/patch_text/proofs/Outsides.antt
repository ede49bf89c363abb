-- The first row that does not fit.
use Rattle.std.proofs.Common.{◌≡◌, ℕ, ◌+◌, Bool, true, false, Option, Some, None, MatchOption, List, [], ◌∷◌, ◌++◌, length, arith, refl, sym, ap, ◌∙◌}
use Rattle.std.specs.Prelude.{if◌then◌else◌}
use Rattle.patch_text.specs.declared.rows.PatchRow.{PatchRow}
use Rattle.patch_text.specs.Contents.{Contents}
use Rattle.patch_text.specs.Lengths.{fits, length_after, length_behind, AllFit, IsOutside}
use Rattle.patch_text.specs.Outside.{outside_from, outside, OutsideIsFirst, FitHasNoOutside, OutsideIsOne}

none_from : (number n : ℕ) (rows : List PatchRow) → AllFit n rows → outside_from number n rows ≡ None
none_from number n [] fit = refl
none_from number n (row ∷ rows) fit = rw (fit.0) (none_from (number + 1) (length_after n row) rows fit.1)

pub fit_has_no_outside : FitHasNoOutside
fit_has_no_outside contents fit = none_from 1 contents.stated contents.rows fit

one_from : (number n : ℕ) (earlier : List PatchRow) (row : PatchRow) (later : List PatchRow) → AllFit n earlier → fits (length_behind n earlier) row ≡ false
    → outside_from number n (earlier ++ row ∷ later) ≡ Some (length earlier + number)
one_from number n [] row later fit misfit = let none : number ≡ 0 + number = omega arith in rw misfit (ap Some none)
one_from number n (first ∷ earlier) row later fit misfit =
    let count : length earlier + (number + 1) ≡ length (first ∷ earlier) + number = omega arith in
    rw (fit.0) (one_from (number + 1) (length_after n first) earlier row later fit.1 misfit ∙ ap Some count)

pub outside_is_one : OutsideIsOne
outside_is_one contents number is =
    ap (outside_from 1 contents.stated) is.whole ∙ one_from 1 contents.stated is.earlier is.row is.later is.before is.outside ∙ ap Some (sym is.counted)

-- rows cut at the first that does not fit
record CutAt (n number : ℕ) (rows : List PatchRow) (found : ℕ) : Type 0 where
  earlier : List PatchRow
  row : PatchRow
  later : List PatchRow
  whole : rows ≡ earlier ++ row ∷ later
  counted : found ≡ length earlier + number
  before : AllFit n earlier
  misfit : fits (length_behind n earlier) row ≡ false

cut_more : (n number : ℕ) (first : PatchRow) (rows : List PatchRow) (found : ℕ) → fits n first ≡ true → CutAt (length_after n first) (number + 1) rows found → CutAt n number (first ∷ rows) found
cut_more n number first rows found fit cut = record {
  earlier = first ∷ cut.earlier;
  row = cut.row;
  later = cut.later;
  whole = ap (λ l. first ∷ l) cut.whole;
  counted = omega (arith, cut.counted);
  before = (fit, cut.before);
  misfit = cut.misfit;
}

abbrev Judged : ℕ → ℕ → List PatchRow → Option ℕ → Type 0
Judged number n rows found = MatchOption found (AllFit n rows) (CutAt n number rows)

judged_more : (number n : ℕ) (first : PatchRow) (rows : List PatchRow) (found : Option ℕ) → fits n first ≡ true → Judged (number + 1) (length_after n first) rows found → Judged number n (first ∷ rows) found
judged_more number n first rows None fit all = (fit, all)
judged_more number n first rows (Some found) fit cut = cut_more n number first rows found fit cut

judged_by : (number n : ℕ) (row : PatchRow) (rows : List PatchRow) (fit : Bool) → fit ≡ fits n row → Judged (number + 1) (length_after n row) rows (outside_from (number + 1) (length_after n row) rows)
    → Judged number n (row ∷ rows) (if fit then outside_from (number + 1) (length_after n row) rows else Some number)
judged_by number n row rows true is further = judged_more number n row rows (outside_from (number + 1) (length_after n row) rows) (sym is) further
judged_by number n row rows false is further = record { earlier = []; row = row; later = rows; whole = refl; counted = omega arith; before = tt; misfit = sym is }

judged : (number n : ℕ) (rows : List PatchRow) → Judged number n rows (outside_from number n rows)
judged number n [] = tt
judged number n (row ∷ rows) = judged_by number n row rows (fits n row) refl (judged (number + 1) (length_after n row) rows)

first_by : (contents : Contents) (found : Option ℕ) → Judged 1 contents.stated contents.rows found → MatchOption found (AllFit contents.stated contents.rows) (IsOutside contents)
first_by contents None all = all
first_by contents (Some number) cut = record {
  earlier = cut.earlier;
  row = cut.row;
  later = cut.later;
  whole = cut.whole;
  counted = cut.counted;
  before = cut.before;
  outside = cut.misfit;
}

pub outside_is_first : OutsideIsFirst
outside_is_first contents = first_by contents (outside contents) (judged 1 contents.stated contents.rows)
