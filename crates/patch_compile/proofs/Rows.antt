-- The part of each row makes the machine carry it out.
use Rattle.std.proofs.Common.{◌≡◌, ℕ, ◌+◌, ◌-◌, ◌<◌, ◌≤◌, true, List, [], ◌∷◌, ◌++◌, length, nat_le, arith, inl, inr, refl, sym, ap, ◌∙◌, subst, length-append}
use Rattle.std.specs.Prelude.{slice_range}
use Rattle.std.proofs.lemmas.Bool.{and_parts, leb-true, le-leb, lt-leb, cases_lt}
use Rattle.std.proofs.lemmas.List.{append_assoc}
use Rattle.fuun_base.specs.declared.letters.Base.{Base}
use Rattle.patch_text.specs.declared.rows.PatchRow.{PatchRow}
use Rattle.patch_text.specs.declared.rows.PatchRow.TheVariants.{Edit, Copy, Move}
use Rattle.patch_text.specs.Lengths.{fits}
use Rattle.patch_compile.specs.Splice.{splice, without}
use Rattle.patch_compile.specs.Code.{edit_code, range_code, row_code}
use Rattle.patch_compile.proofs.Attempts.{Steps, edit_steps, range_steps, placed}
use Rattle.patch_compile.proofs.Seams.{take_at, drop_at, range_at, with_put_at, without_at, in_three, InFour, in_four}

-- the part of a row before further parts r and a DNA d carries the row out on d
abbrev pub CarriesRow : PatchRow → List Base → List Base → ℕ → Type 0
CarriesRow row r d limit = length (r ++ splice d row) ≤ limit → Steps (row_code row (length r) ++ (r ++ d)) (r ++ splice d row) limit

edit_carries : (place cut : ℕ) (put r d : List Base) (limit : ℕ) → place + cut ≤ length d → CarriesRow (Edit place cut put) r d limit
edit_carries place cut put r d limit within bound =
    let p = in_three d place cut within in
    let next : splice d (Edit place cut put) ≡ p.u ++ (put ++ p.v) =
    let joined : d ≡ (p.u ++ p.w) ++ p.v = p.whole ∙ sym (append_assoc p.u p.w p.v) in
    let size : place + cut ≡ length (p.u ++ p.w) = omega (arith, p.first, p.second, length-append p.u p.w) in
    rw (take_at d p.u (p.w ++ p.v) place p.whole p.first, drop_at d (p.u ++ p.w) p.v (place + cut) joined size) refl in
    let after : (r ++ p.u) ++ (put ++ p.v) ≡ r ++ splice d (Edit place cut put) = append_assoc r p.u (put ++ p.v) ∙ ap (λ l. r ++ l) (sym next) in
    let before : (r ++ p.u) ++ (p.w ++ p.v) ≡ r ++ d = append_assoc r p.u (p.w ++ p.v) ∙ ap (λ l. r ++ l) (sym p.whole) in
    let first : place + length r ≡ length (r ++ p.u) = omega (arith, p.first, length-append r p.u) in
    subst (λ l. Steps (edit_code (place + length r) cut put ++ l) (r ++ splice d (Edit place cut put)) limit) before
    (subst (λ l. Steps (edit_code (place + length r) cut put ++ ((r ++ p.u) ++ (p.w ++ p.v))) l limit) after
    (edit_steps (r ++ p.u) p.w p.v put (place + length r) cut limit first p.second (rw (ap length after) bound)))

-- a range in parts, of which the first stays in its place
range_carries : (r d next : List Base) (more : List ℕ) (a b c limit : ℕ) (p : InFour d a b c)
    → next ≡ p.u ++ placed ((r ++ p.u) ∷ p.w1 ∷ p.w2 ∷ []) more p.v → length (r ++ next) ≤ limit
    → Steps (range_code (a + length r) b c (0 ∷ more) ++ (r ++ d)) (r ++ next) limit
range_carries r d next more a b c limit p is bound =
    let texts : List (List Base) = (r ++ p.u) ∷ p.w1 ∷ p.w2 ∷ [] in
    let after : (r ++ p.u) ++ placed texts more p.v ≡ r ++ next = append_assoc r p.u (placed texts more p.v) ∙ ap (λ l. r ++ l) (sym is) in
    let before : (r ++ p.u) ++ (p.w1 ++ (p.w2 ++ p.v)) ≡ r ++ d = append_assoc r p.u (p.w1 ++ (p.w2 ++ p.v)) ∙ ap (λ l. r ++ l) (sym p.whole) in
    let first : a + length r ≡ length (r ++ p.u) = omega (arith, p.first, length-append r p.u) in
    subst (λ l. Steps (range_code (a + length r) b c (0 ∷ more) ++ l) (r ++ next) limit) before
    (subst (λ l. Steps (range_code (a + length r) b c (0 ∷ more) ++ ((r ++ p.u) ++ (p.w1 ++ (p.w2 ++ p.v)))) l limit) after
    (range_steps (r ++ p.u) p.w1 p.w2 p.v (0 ∷ more) (a + length r) b c limit first p.second p.third (rw (ap length after) bound)))

-- copies

copy_before : (source count target : ℕ) (r d : List Base) (limit : ℕ) → source + count ≤ length d → target ≤ source → CarriesRow (Copy source count target) r d limit
copy_before source count target r d limit within at bound =
    let p = in_four d target (source - target) count (omega (arith, within, at)) in
    let two : d ≡ (p.u ++ p.w1) ++ (p.w2 ++ p.v) = p.whole ∙ sym (append_assoc p.u p.w1 (p.w2 ++ p.v)) in
    let start : source ≡ length (p.u ++ p.w1) = omega (arith, at, p.first, p.second, length-append p.u p.w1) in
    let stop : source + count ≡ source + length p.w2 = omega (arith, p.third) in
    let range : slice_range d source (source + count) ≡ p.w2 = range_at d (p.u ++ p.w1) p.w2 p.v source (source + count) two start stop in
    let next : splice d (Copy source count target) ≡ p.u ++ (p.w2 ++ (p.w1 ++ (p.w2 ++ p.v))) =
    with_put_at d p.u (p.w1 ++ (p.w2 ++ p.v)) p.w2 (slice_range d source (source + count)) target p.whole p.first range in
    rw (le-leb target source at) (range_carries r d (splice d (Copy source count target)) (2 ∷ 1 ∷ 2 ∷ []) target (source - target) count limit p next bound)

copy_behind : (source count target : ℕ) (r d : List Base) (limit : ℕ) → target ≤ length d → source < target → source + count ≤ target → CarriesRow (Copy source count target) r d limit
copy_behind source count target r d limit within at behind bound =
    let p = in_four d source count (target - source - count) (omega (arith, within, at, behind)) in
    let range : slice_range d source (source + count) ≡ p.w1 = range_at d p.u p.w1 (p.w2 ++ p.v) source (source + count) p.whole p.first (ap (λ n. source + n) p.second) in
    let joined : d ≡ (p.u ++ (p.w1 ++ p.w2)) ++ p.v =
    p.whole ∙ ap (λ l. p.u ++ l) (sym (append_assoc p.w1 p.w2 p.v)) ∙ sym (append_assoc p.u (p.w1 ++ p.w2) p.v) in
    let size : target ≡ length (p.u ++ (p.w1 ++ p.w2)) = omega (arith, at, behind, p.first, p.second, p.third, length-append p.u (p.w1 ++ p.w2), length-append p.w1 p.w2) in
    let next : splice d (Copy source count target) ≡ p.u ++ (p.w1 ++ (p.w2 ++ (p.w1 ++ p.v))) =
    with_put_at d (p.u ++ (p.w1 ++ p.w2)) p.v p.w1 (slice_range d source (source + count)) target joined size range
    ∙ append_assoc p.u (p.w1 ++ p.w2) (p.w1 ++ p.v) ∙ ap (λ l. p.u ++ l) (append_assoc p.w1 p.w2 (p.w1 ++ p.v)) in
    rw (lt-leb target source at, le-leb (source + count) target behind) (range_carries r d (splice d (Copy source count target)) (1 ∷ 2 ∷ 1 ∷ []) source count (target - source - count) limit p next bound)

copy_inside : (source count target : ℕ) (r d : List Base) (limit : ℕ) → source + count ≤ length d → source < target → target < source + count → CarriesRow (Copy source count target) r d limit
copy_inside source count target r d limit within at inside bound =
    let p = in_four d source (target - source) (source + count - target) (omega (arith, within, at, inside)) in
    let two : d ≡ (p.u ++ p.w1) ++ (p.w2 ++ p.v) = p.whole ∙ sym (append_assoc p.u p.w1 (p.w2 ++ p.v)) in
    let whole : d ≡ p.u ++ ((p.w1 ++ p.w2) ++ p.v) = p.whole ∙ ap (λ l. p.u ++ l) (sym (append_assoc p.w1 p.w2 p.v)) in
    let stop : source + count ≡ source + length (p.w1 ++ p.w2) = omega (arith, at, inside, p.second, p.third, length-append p.w1 p.w2) in
    let range : slice_range d source (source + count) ≡ p.w1 ++ p.w2 = range_at d p.u (p.w1 ++ p.w2) p.v source (source + count) whole p.first stop in
    let size : target ≡ length (p.u ++ p.w1) = omega (arith, at, p.first, p.second, length-append p.u p.w1) in
    let next : splice d (Copy source count target) ≡ p.u ++ (p.w1 ++ (p.w1 ++ (p.w2 ++ (p.w2 ++ p.v)))) =
    with_put_at d (p.u ++ p.w1) (p.w2 ++ p.v) (p.w1 ++ p.w2) (slice_range d source (source + count)) target two size range
    ∙ append_assoc p.u p.w1 ((p.w1 ++ p.w2) ++ (p.w2 ++ p.v)) ∙ ap (λ l. p.u ++ (p.w1 ++ l)) (append_assoc p.w1 p.w2 (p.w2 ++ p.v)) in
    rw (lt-leb target source at, lt-leb (source + count) target inside) (range_carries r d (splice d (Copy source count target)) (1 ∷ 1 ∷ 2 ∷ 2 ∷ []) source (target - source) (source + count - target) limit p next bound)

copy_carries : (source count target : ℕ) (r d : List Base) (limit : ℕ) → source + count ≤ length d → target ≤ length d → CarriesRow (Copy source count target) r d limit
copy_carries source count target r d limit within there =
    elim (cases_lt source target) as (λ _. CarriesRow (Copy source count target) r d limit) [
      | inl at ↦ elim (cases_lt target (source + count)) as (λ _. CarriesRow (Copy source count target) r d limit) [
        | inl inside ↦ copy_inside source count target r d limit within at inside
        | inr behind ↦ copy_behind source count target r d limit there at behind
      ]
      | inr at ↦ copy_before source count target r d limit within at
    ]

-- moves

move_before : (source count target : ℕ) (r d : List Base) (limit : ℕ) → source + count ≤ length d → target ≤ source → CarriesRow (Move source count target) r d limit
move_before source count target r d limit within at bound =
    let p = in_four d target (source - target) count (omega (arith, within, at)) in
    let two : d ≡ (p.u ++ p.w1) ++ (p.w2 ++ p.v) = p.whole ∙ sym (append_assoc p.u p.w1 (p.w2 ++ p.v)) in
    let start : source ≡ length (p.u ++ p.w1) = omega (arith, at, p.first, p.second, length-append p.u p.w1) in
    let stop : source + count ≡ source + length p.w2 = omega (arith, p.third) in
    let range : slice_range d source (source + count) ≡ p.w2 = range_at d (p.u ++ p.w1) p.w2 p.v source (source + count) two start stop in
    let rest : without d source (source + count) ≡ p.u ++ (p.w1 ++ p.v) =
    without_at d (p.u ++ p.w1) p.w2 p.v source (source + count) two start stop ∙ append_assoc p.u p.w1 p.v in
    let next : splice d (Move source count target) ≡ p.u ++ (p.w2 ++ (p.w1 ++ p.v)) =
    with_put_at (without d source (source + count)) p.u (p.w1 ++ p.v) p.w2 (slice_range d source (source + count)) target rest p.first range in
    rw (le-leb target source at) (range_carries r d (splice d (Move source count target)) (2 ∷ 1 ∷ []) target (source - target) count limit p next bound)

move_behind : (source count target : ℕ) (r d : List Base) (limit : ℕ) → target + count ≤ length d → source < target → CarriesRow (Move source count target) r d limit
move_behind source count target r d limit within at bound =
    let p = in_four d source count (target - source) (omega (arith, within, at)) in
    let stop : source + count ≡ source + length p.w1 = ap (λ n. source + n) p.second in
    let range : slice_range d source (source + count) ≡ p.w1 = range_at d p.u p.w1 (p.w2 ++ p.v) source (source + count) p.whole p.first stop in
    let rest : without d source (source + count) ≡ (p.u ++ p.w2) ++ p.v =
    without_at d p.u p.w1 (p.w2 ++ p.v) source (source + count) p.whole p.first stop ∙ sym (append_assoc p.u p.w2 p.v) in
    let size : target ≡ length (p.u ++ p.w2) = omega (arith, at, p.first, p.third, length-append p.u p.w2) in
    let next : splice d (Move source count target) ≡ p.u ++ (p.w2 ++ (p.w1 ++ p.v)) =
    with_put_at (without d source (source + count)) (p.u ++ p.w2) p.v p.w1 (slice_range d source (source + count)) target rest size range
    ∙ append_assoc p.u p.w2 (p.w1 ++ p.v) in
    rw (lt-leb target source at) (range_carries r d (splice d (Move source count target)) (2 ∷ 1 ∷ []) source count (target - source) limit p next bound)

move_carries : (source count target : ℕ) (r d : List Base) (limit : ℕ) → source + count ≤ length d → target ≤ length d - count → CarriesRow (Move source count target) r d limit
move_carries source count target r d limit within there =
    elim (cases_lt source target) as (λ _. CarriesRow (Move source count target) r d limit) [
      | inl at ↦ move_behind source count target r d limit (omega (arith, within, there)) at
      | inr at ↦ move_before source count target r d limit within at
    ]

pub row_carries : (row : PatchRow) (r d : List Base) (limit : ℕ) → fits (length d) row ≡ true → CarriesRow row r d limit
row_carries (Edit place cut put) r d limit fit = edit_carries place cut put r d limit (leb-true (place + cut) (length d) fit)
row_carries (Copy source count target) r d limit fit =
    let (range, there) = and_parts (nat_le (source + count) (length d)) (nat_le target (length d)) fit in
    copy_carries source count target r d limit (leb-true (source + count) (length d) range) (leb-true target (length d) there)
row_carries (Move source count target) r d limit fit =
    let (range, there) = and_parts (nat_le (source + count) (length d)) (nat_le target (length d - count)) fit in
    move_carries source count target r d limit (leb-true (source + count) (length d) range) (leb-true target (length d - count) there)
