-- The DNA that the run on a load starts from is within its limit.
use Rattle.std.proofs.Common.{◌≡◌, ℕ, ◌+◌, ◌*◌, ◌<◌, ◌≤◌, ◌^◌, ◌&&◌, true, Result, Ok, Err, List, [], ◌∷◌, ◌++◌, length, nat_le, arith, sym, ap, subst, ◌∙◌, length-append}
use Rattle.std.specs.Prelude.{IfOk}
use Rattle.std.specs.List.{list_all}
use Rattle.std.proofs.lemmas.Bool.{and_parts, leb-true, false≢true}
use Rattle.fuun_base.specs.declared.letters.Base.{Base}
use Rattle.fuun_base.specs.declared.letters.Base.TheVariants.{I, C, F, P}
use Rattle.fuun_base.specs.Quote.{quote, quote_of, asnat}
use Rattle.fuun_base.proofs.AsnatLemmas.{length-asnat_le}
use Rattle.dna_reader.specs.Codes.{end_code}
use Rattle.patch_text.specs.declared.rows.PatchRow.{PatchRow}
use Rattle.patch_text.specs.declared.rows.PatchRow.TheVariants.{Edit, Copy, Move}
use Rattle.patch_text.specs.Contents.{Contents}
use Rattle.patch_text.specs.Lengths.{AllFit, IsOutside}
use Rattle.patch_text.proofs.Outsides.{fit_has_no_outside, outside_is_one}
use Rattle.patch_compile.specs.Code.{skip_group, reference, edit_code, row_code, prefix}
use Rattle.workload.specs.Laws.{is_light}
use Rattle.workload.specs.Load.{patches_of, target_of}
use Rattle.workload.specs.Numbers.{behind}
use Rattle.workload.proofs.Drawing.{length-bases_drawn}
use Rattle.workload.proofs.Rows.{all_fit, all_light, length-rows_drawn}
use Rattle.fuun_top.specs.Bench.{load_dna, load_limit}

-- a quote is at most twice as long
one_quoted : (b : Base) → length (quote_of b) ≤ 2
one_quoted I = omega arith
one_quoted C = omega arith
one_quoted F = omega arith
one_quoted P = omega arith

quoted_short : (d : List Base) → length (quote d) ≤ 2 * length d
quoted_short [] = omega arith
quoted_short (b ∷ d) = omega (arith, length-append (quote_of b) (quote d), one_quoted b, quoted_short d)

-- the part of an edit has 19 bases beside its numbers and its put
length-edit : (n cut : ℕ) (put : List Base) → length (edit_code n cut put) ≤ 20 + (length (asnat n) + (length (asnat cut) + length (quote put)))
length-edit n cut put =
    let tail = quote put ++ end_code in
    let third = reference 0 ++ tail in
    let second = end_code ++ third in
    let first : List Base = I ∷ P ∷ (asnat cut ++ second) in
    let group : length (skip_group n) ≡ 8 + length (asnat n) = omega (arith, length-append (asnat n) end_code) in
    let cuts : length first ≡ 2 + length (asnat cut) + length second = omega (arith, length-append (asnat cut) second) in
    let ends : length second ≡ 3 + length third = omega arith in
    let shown : length third ≡ 2 + (length (asnat 0) + length (asnat 0)) + length tail = omega (arith, length-append (asnat 0) (asnat 0), length-append (asnat 0 ++ asnat 0) tail) in
    let none : length (asnat 0) ≤ 1 = length-asnat_le 0 0 (omega arith) in
    let puts : length tail ≡ length (quote put) + 3 = length-append (quote put) end_code in
    omega (arith, group, cuts, ends, shown, none, puts, length-append (skip_group n) first)

-- the part of a light row
part_light : (most r : ℕ) (row : PatchRow) → is_light most row ≡ true → most + r < 2 ^ 25 → length (row_code row r) ≤ 65
part_light most r (Edit place cut put) light small =
    let (at, rest) = and_parts (nat_le place most) (nat_le cut 15 && nat_le (length put) 7) light in
    let (few, short) = and_parts (nat_le cut 15) (nat_le (length put) 7) rest in
    let there : place + r < 2 ^ 25 = omega (arith, small, leb-true place most at) in
    let little : cut < 2 ^ 4 = omega (arith, leb-true cut 15 few) in
    omega (arith, length-edit (place + r) cut put, length-asnat_le 25 (place + r) there, length-asnat_le 4 cut little, quoted_short put, leb-true (length put) 7 short)
part_light most r (Copy source count target) light small = absurd (false≢true light)
part_light most r (Move source count target) light small = absurd (false≢true light)

prefix_light : (most : ℕ) (rows : List PatchRow) → list_all (is_light most) rows ≡ true → most + 65 * length rows < 2 ^ 25 → length (prefix rows) ≤ 65 * length rows
prefix_light most [] light small = omega arith
prefix_light most (row ∷ rows) light small =
    let (one, more) = and_parts (is_light most row) (list_all (is_light most) rows) light in
    let behind_it = prefix_light most rows more (omega (arith, small)) in
    let here = part_light most (length (prefix rows)) row one (omega (arith, small, behind_it)) in
    omega (arith, here, behind_it, length-append (row_code row (length (prefix rows))) (prefix rows))

-- the prefix of a load: at most 65 bases a round
pub prefix_short : (seed size rounds : ℕ) → size ≤ 2 ^ 24 → rounds ≤ 2 ^ 16 → length (prefix (patches_of seed size rounds).rows) ≤ 65 * rounds
unfolding patches_of
prefix_short seed size rounds small few =
    let counted = length-rows_drawn rounds size (behind size seed) in
    let light = all_light rounds size (behind size seed) (size + 7 * rounds) (omega arith) in
    let short = prefix_light (size + 7 * rounds) _ light (omega (arith, counted, small, few)) in
    omega (arith, counted, short)

pub target_counted : (seed size : ℕ) → length (target_of seed size) ≡ size
unfolding target_of
target_counted seed size = length-bases_drawn size seed

load_within : (seed size rounds : ℕ) → size ≤ 2 ^ 24 → rounds ≤ 2 ^ 16 → length (load_dna seed size rounds) ≤ load_limit
load_within seed size rounds small few =
    omega (arith, length-append (prefix (patches_of seed size rounds).rows) (target_of seed size), prefix_short seed size rounds small few, target_counted seed size, small, few)

-- what is made of a load
pub load_fits : (patches : Contents) (seed size rounds : ℕ) → patches ≡ patches_of seed size rounds → AllFit patches.stated patches.rows
unfolding patches_of
load_fits patches seed size rounds is = subst (λ (p : Contents). AllFit p.stated p.rows) (sym is) (all_fit rounds size (behind size seed))

pub load_short : (patches : Contents) (seed size rounds : ℕ) → size ≤ 2 ^ 24 → rounds ≤ 2 ^ 16 → patches ≡ patches_of seed size rounds → length (prefix patches.rows) ≤ load_limit
load_short patches seed size rounds small few is =
    subst (λ (p : Contents). length (prefix p.rows) ≤ load_limit) (sym is) (omega (arith, prefix_short seed size rounds small few, few))

pub joined_within : {E : Type 0} (result : Result (List Base) E) (patches : Contents) (code target : List Base) (seed size rounds : ℕ) → size ≤ 2 ^ 24 → rounds ≤ 2 ^ 16
    → patches ≡ patches_of seed size rounds → target ≡ target_of seed size → code ≡ prefix patches.rows → IfOk result (λ dna. dna ≡ code ++ target) → IfOk result (λ dna. length dna ≤ load_limit)
joined_within (Ok dna) patches code target seed size rounds small few drawn aimed coded is =
    let same : dna ≡ load_dna seed size rounds = is ∙ ap (λ c. c ++ target) (coded ∙ ap (λ (p : Contents). prefix p.rows) drawn) ∙ ap (λ t. prefix (patches_of seed size rounds).rows ++ t) aimed in
    subst (λ d. length d ≤ load_limit) (sym same) (load_within seed size rounds small few)
joined_within (Err error) patches code target seed size rounds small few drawn aimed coded is = tt

-- where all rows fit none is outside
pub none_outside : (contents : Contents) (number : ℕ) → AllFit contents.stated contents.rows → IsOutside contents number → ⊥
none_outside contents number fit is = absurd (cc (fit_has_no_outside contents fit, outside_is_one contents number is))
