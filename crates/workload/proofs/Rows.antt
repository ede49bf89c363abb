-- What holds of the rows that are drawn.
use Rattle.std.proofs.Common.{◌≡◌, ℕ, zero, suc, ◌+◌, ◌*◌, ◌-◌, ◌<◌, ◌≤◌, min, true, List, [], ◌∷◌, ◌++◌, length, take, arith, refl, sym, ap, ◌∙◌, append_assoc}
use Rattle.std.specs.List.{list_all}
use Rattle.std.proofs.Math.Nat.{mod-lt, min-le_left, min-le_right}
use Rattle.std.proofs.lemmas.Bool.{le-leb}
use Rattle.fuun_base.specs.declared.letters.Base.{Base}
use Rattle.patch_text.specs.declared.rows.PatchRow.{PatchRow}
use Rattle.patch_text.specs.declared.rows.PatchRow.TheVariants.{Edit}
use Rattle.patch_text.specs.Lengths.{fits, length_after, length_behind, AllFit}
use Rattle.workload.specs.Numbers.{behind, drawn, bases_drawn}
use Rattle.workload.specs.Load.{row_drawn, behind_row, rows_drawn}
use Rattle.workload.specs.Laws.{is_light}
use Rattle.workload.proofs.Drawing.{length-bases_drawn}

pub drawn_below : (x n : ℕ) → 0 < n → drawn x n < n
unfolding drawn
drawn_below x n some = mod-lt _ some

place_within : (n x : ℕ) → drawn x (n + 1) ≤ n
place_within n x = omega (arith, drawn_below x (n + 1) (omega arith))

pub row_fits : (n x : ℕ) → fits n (row_drawn n x) ≡ true
unfolding row_drawn
row_fits n x =
    let place = drawn x (n + 1) in
    le-leb _ n (omega (arith, place_within n x, min-le_right (drawn (behind 1 x) 16) (n - place)))

pub row_light : (most n x : ℕ) → n ≤ most → is_light most (row_drawn n x) ≡ true
unfolding row_drawn
row_light most n x within =
    let place = drawn x (n + 1) in
    let cut = min (drawn (behind 1 x) 16) (n - place) in
    let count = drawn (behind 2 x) 8 in
    let cut_most : cut ≤ 15 = omega (arith, min-le_left (drawn (behind 1 x) 16) (n - place), drawn_below (behind 1 x) 16 (omega arith)) in
    let put_most : length (bases_drawn count (behind 3 x)) ≤ 7 = omega (arith, length-bases_drawn count (behind 3 x), drawn_below (behind 2 x) 8 (omega arith)) in
    rw (le-leb place most (omega (arith, place_within n x, within)), le-leb cut 15 cut_most, le-leb _ 7 put_most) refl

pub row_grows : (n x : ℕ) → length_after n (row_drawn n x) ≤ n + 7
unfolding row_drawn
row_grows n x =
    let count = drawn (behind 2 x) 8 in
    omega (arith, length-bases_drawn count (behind 3 x), drawn_below (behind 2 x) 8 (omega arith))

pub all_fit : (rounds n x : ℕ) → AllFit n (rows_drawn rounds n x)
all_fit zero n x = tt
all_fit (suc rounds) n x = (row_fits n x, all_fit rounds (length_after n (row_drawn n x)) (behind_row n x))

pub all_light : (rounds n x most : ℕ) → n + 7 * rounds ≤ most → list_all (is_light most) (rows_drawn rounds n x) ≡ true
all_light zero n x most within = refl
all_light (suc rounds) n x most within =
    rw (row_light most n x (omega (arith, within)), all_light rounds (length_after n (row_drawn n x)) (behind_row n x) most (omega (arith, within, row_grows n x))) refl

pub length-rows_drawn : (rounds n x : ℕ) → length (rows_drawn rounds n x) ≡ rounds
length-rows_drawn zero n x = refl
length-rows_drawn (suc rounds) n x = ap suc (length-rows_drawn rounds (length_after n (row_drawn n x)) (behind_row n x))

pub lengths_stay : (rounds made n x : ℕ) → length_behind n (take made (rows_drawn rounds n x)) ≤ n + 7 * rounds
lengths_stay rounds zero n x = omega arith
lengths_stay zero (suc made) n x = omega arith
lengths_stay (suc rounds) (suc made) n x =
    omega (arith, lengths_stay rounds made (length_after n (row_drawn n x)) (behind_row n x), row_grows n x)

-- the first of the rows that are left
pub rows_next : (left n x : ℕ) → 0 < left → rows_drawn left n x ≡ row_drawn n x ∷ rows_drawn (left - 1) (length_after n (row_drawn n x)) (behind_row n x)
rows_next zero n x some = absurd (omega arith)
rows_next (suc left) n x some =
    let same : left ≡ suc left - 1 = omega arith in
    ap (λ k. row_drawn n x ∷ rows_drawn k (length_after n (row_drawn n x)) (behind_row n x)) same

pub rows_more : (rows next_rows : List PatchRow) (rounds round len x after state : ℕ) (whole : List PatchRow) → round < rounds → next_rows ≡ rows ++ row_drawn len x ∷ [] → after ≡ length_after len (row_drawn len x) → state ≡ behind_row len x
    → rows ++ rows_drawn (rounds - round) len x ≡ whole → next_rows ++ rows_drawn (rounds - (round + 1)) after state ≡ whole
rows_more rows next_rows rounds round len x after state whole inside added same_len same_state before =
    let row = row_drawn len x in
    let fewer : rounds - (round + 1) ≡ rounds - round - 1 = omega arith in
    rw (added, same_len, same_state, fewer)
    (append_assoc rows (row ∷ []) (rows_drawn (rounds - round - 1) (length_after len row) (behind_row len x))
    ∙ ap (λ l. rows ++ l) (sym (rows_next (rounds - round) len x (omega arith))) ∙ before)

-- what was drawn part by part is the row
pub row_is : (n x place cut count : ℕ) (put : List Base) → place ≡ drawn x (n + 1) → cut ≡ min (drawn (behind 1 x) 16) (n - place) → count ≡ drawn (behind 2 x) 8 → put ≡ bases_drawn count (behind 3 x)
    → Edit place cut put ≡ row_drawn n x
unfolding row_drawn
row_is n x place cut count put same_place same_cut same_count same_put = rw (same_put, same_count, same_cut, same_place) refl

pub state_is : (n x count state : ℕ) → count ≡ drawn (behind 2 x) 8 → state ≡ behind count (behind 3 x) → state ≡ behind_row n x
unfolding row_drawn behind_row
state_is n x count state same_count same = same ∙ ap (λ k. behind k (behind 3 x)) (same_count ∙ sym (length-bases_drawn (drawn (behind 2 x) 8) (behind 3 x)))

-- a row whose numbers were drawn one after another, each from the state that the one before it left
pub row_by_parts : (n x second third fourth place top cut count room : ℕ) (put : List Base) → place ≡ drawn x (n + 1) → second ≡ behind 1 x → top ≡ drawn second 16 → cut ≡ min top (n - place)
    → third ≡ behind 1 second → count ≡ drawn third 8 → fourth ≡ behind 1 third → room ≡ count → put ≡ bases_drawn room fourth → Edit place cut put ≡ row_drawn n x
row_by_parts n x second third fourth place top cut count room put same_place to_second same_top same_cut to_third same_count to_fourth same_room same_put =
    let third_is : third ≡ behind 2 x = to_third ∙ ap (behind 1) to_second in
    row_is n x place cut count put same_place (same_cut ∙ ap (λ k. min k (n - place)) (same_top ∙ ap (λ s. drawn s 16) to_second))
    (same_count ∙ ap (λ s. drawn s 8) third_is) (same_put ∙ ap (λ k. bases_drawn k fourth) same_room ∙ ap (bases_drawn count) (to_fourth ∙ ap (behind 1) third_is))

-- the state that its draws leave
pub state_by_parts : (n x second third fourth count room state : ℕ) → second ≡ behind 1 x → third ≡ behind 1 second → count ≡ drawn third 8 → fourth ≡ behind 1 third → room ≡ count → state ≡ behind room fourth → state ≡ behind_row n x
state_by_parts n x second third fourth count room state to_second to_third same_count to_fourth same_room same =
    let third_is : third ≡ behind 2 x = to_third ∙ ap (behind 1) to_second in
    state_is n x count state (same_count ∙ ap (λ s. drawn s 8) third_is) (same ∙ ap (λ k. behind k fourth) same_room ∙ ap (behind count) (to_fourth ∙ ap (behind 1) third_is))
