-- Row by row: which have fit from the front on, and which have been written from the end on.
use Rattle.std.proofs.Common.{◌≡◌, ℕ, zero, suc, ◌+◌, ◌-◌, ◌*◌, ◌^◌, ◌<◌, ◌≤◌, true, false, List, [], ◌∷◌, ◌++◌, length, take, drop, get_or, reverse, arith, refl, sym, ap, ◌∙◌, length-append}
use Rattle.std.proofs.lemmas.List.{take_more, drop_more, take-append-drop, length-take-le, take_all, drop_all, length-reverse}
use Rattle.fuun_base.specs.declared.letters.Base.{Base}
use Rattle.patch_text.specs.declared.rows.PatchRow.{PatchRow}
use Rattle.patch_text.specs.Contents.{Contents}
use Rattle.patch_text.specs.Lengths.{fits, length_after, length_behind, AllFit, IsOutside}
use Rattle.patch_compile.specs.Code.{row_code, prefix}

-- fronts

length_behind-append : (n : ℕ) (rows more : List PatchRow) → length_behind n (rows ++ more) ≡ length_behind (length_behind n rows) more
length_behind-append n [] more = refl
length_behind-append n (row ∷ rows) more = length_behind-append (length_after n row) rows more

AllFit-append : (n : ℕ) (rows more : List PatchRow) → AllFit n rows → AllFit (length_behind n rows) more → AllFit n (rows ++ more)
AllFit-append n [] more a b = b
AllFit-append n (row ∷ rows) more a b = (a.0, AllFit-append (length_after n row) rows more a.1 b)

-- the rows before an index fit, and this is the length behind them
pub record HaveFit (stated : ℕ) (rows : List PatchRow) (index n : ℕ) : Type 0 where
  pub all : AllFit stated (take index rows)
  pub behind : n ≡ length_behind stated (take index rows)
  pub most : n ≤ (index + 1) * 2 ^ 64

pub fit_more : (stated : ℕ) (rows : List PatchRow) (index n m : ℕ) (row : PatchRow) → index < length rows → HaveFit stated rows index n
    → fits n (get_or rows index row) ≡ true → m ≡ length_after n (get_or rows index row) → m ≤ n + 2 ^ 64 → HaveFit stated rows (index + 1) m
fit_more stated rows index n m row within before fit is most =
    let here = get_or rows index row in
    let front : take (index + 1) rows ≡ take index rows ++ here ∷ [] = take_more rows index row within in
    record {
      all = rw front (AllFit-append stated (take index rows) (here ∷ []) before.all (rw (← before.behind) (fit, tt)));
      behind = is ∙ ap (λ k. length_after k here) before.behind ∙ sym (length_behind-append stated (take index rows) (here ∷ [])) ∙ ap (length_behind stated) (sym front);
      most = omega (arith, most, before.most);
    }

pub all_fit : (stated : ℕ) (rows : List PatchRow) (index n : ℕ) → length rows ≤ index → HaveFit stated rows index n → AllFit stated rows
all_fit stated rows index n past have = rw (← take_all index rows past) have.all

pub outside_at : (contents : Contents) (index n : ℕ) (row : PatchRow) → index < length contents.rows → HaveFit contents.stated contents.rows index n
    → fits n (get_or contents.rows index row) ≡ false → IsOutside contents (index + 1)
outside_at contents index n row within have misfit =
    let rows = contents.rows in
    record {
      earlier = take index rows;
      row = get_or rows index row;
      later = drop (index + 1) rows;
      whole = sym (take-append-drop index rows) ∙ ap (λ l. take index rows ++ l) (drop_more rows index row within);
      counted = ap (λ k. k + 1) (sym (length-take-le index rows (omega (arith, within))));
      before = have.all;
      outside = rw (← have.behind) misfit;
    }

-- ends

-- the parts of the rows from one on are written, last base first
pub record IsWritten (rows : List PatchRow) (limit left : ℕ) (bases : List Base) : Type 0 where
  pub some : left ≤ length rows
  pub parts : bases ≡ reverse (prefix (drop left rows))
  pub within : length (prefix (drop left rows)) ≤ limit

pub none_written : (rows : List PatchRow) (limit left : ℕ) → left ≡ length rows → IsWritten rows limit left []
none_written rows limit left is =
    let none : drop left rows ≡ [] = drop_all left rows (omega (arith, is)) in
    record { some = omega (arith, is); parts = rw none refl; within = rw none (omega arith) }

longer : (rows : List PatchRow) (left : ℕ) → length (prefix (drop left rows)) ≤ length (prefix rows)
longer rows zero = omega arith
longer [] (suc left) = omega arith
longer (row ∷ rows) (suc left) = omega (arith, longer rows left, length-append (row_code row (length (prefix rows))) (prefix rows))

-- a part that does not fit within the limit any more makes the whole prefix longer than it
pub too_long : (rows : List PatchRow) (limit left : ℕ) (bases : List Base) (row : PatchRow) → 0 < left → IsWritten rows limit left bases
    → limit < length bases + length (row_code (get_or rows (left - 1) row) (length bases)) → limit < length (prefix rows)
too_long rows limit left bases row some is past =
    let here : PatchRow = get_or rows (left - 1) row in
    let one : left - 1 + 1 ≡ left = omega (arith, some) in
    let within : left - 1 < length rows = omega (arith, some, is.some) in
    let cut : drop (left - 1) rows ≡ here ∷ drop left rows = drop_more rows (left - 1) row within ∙ ap (λ n. here ∷ drop n rows) one in
    let size : length bases ≡ length (prefix (drop left rows)) = ap length is.parts ∙ length-reverse (prefix (drop left rows)) in
    let part : List Base = row_code here (length (prefix (drop left rows))) in
    let whole : length (prefix (drop (left - 1) rows)) ≡ length part + length (prefix (drop left rows)) = ap (λ l. length (prefix l)) cut ∙ length-append part (prefix (drop left rows)) in
    let same : length (row_code here (length bases)) ≡ length part = ap (λ n. length (row_code here n)) size in
    omega (arith, past, same, size, whole, longer rows (left - 1))
