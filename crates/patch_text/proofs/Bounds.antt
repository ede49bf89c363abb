-- When a row more keeps the bounds.
use Rattle.std.proofs.Common.{◌≡◌, ℕ, ◌+◌, ◌≤◌, ◌-◌, ◌^◌, ◌&&◌, Bool, true, false, List, [], ◌∷◌, ◌++◌, length, nat_le, nat_lt, arith, inl, inr, refl, sym, ap, ◌∙◌, append-nil, length-append}
use Rattle.std.specs.List.{list_all}
use Rattle.std.proofs.lemmas.Bool.{and_parts, le-leb, lt-leb, leb-true, cases_lt}
use Rattle.std.proofs.lemmas.Grind.{flat_map-append}
use Rattle.std.proofs.lemmas.List.Folds.{list_all-append}
use Rattle.patch_text.specs.declared.rows.PatchRow.{PatchRow}
use Rattle.patch_text.specs.Contents.{Contents, no_rows, with_row, is_bounded, has_small_numbers, put_of, puts_of}
use Rattle.patch_text.specs.Room.{has_room, may_follow}

pub puts_of-last : (rows : List PatchRow) (row : PatchRow) → puts_of (rows ++ row ∷ []) ≡ puts_of rows ++ put_of row
puts_of-last rows row = flat_map-append put_of rows (row ∷ []) ∙ ap (λ d. puts_of rows ++ d) (append-nil (put_of row))

pub length-puts_of-last : (rows : List PatchRow) (row : PatchRow) → length (puts_of (rows ++ row ∷ [])) ≡ length (puts_of rows) + length (put_of row)
length-puts_of-last rows row = ap length (puts_of-last rows row) ∙ length-append (puts_of rows) (put_of row)

-- what the bounds say
pub record Within (contents : Contents) : Type 0 where
  pub stated : contents.stated ≤ 2 ^ 40
  pub numbers : list_all has_small_numbers contents.rows ≡ true
  pub rows : length contents.rows ≤ 2 ^ 26
  pub puts : length (puts_of contents.rows) ≤ 2 ^ 26

pub within : (contents : Contents) → is_bounded contents ≡ true → Within contents
unfolding is_bounded
within contents bounded =
    let (front, back) = and_parts (nat_le contents.stated (2 ^ 40) && list_all has_small_numbers contents.rows) (nat_le (length contents.rows) (2 ^ 26) && nat_le (length (puts_of contents.rows)) (2 ^ 26)) bounded in
    let (stated, numbers) = and_parts (nat_le contents.stated (2 ^ 40)) (list_all has_small_numbers contents.rows) front in
    let (rows, puts) = and_parts (nat_le (length contents.rows) (2 ^ 26)) (nat_le (length (puts_of contents.rows)) (2 ^ 26)) back in
    record { stated = leb-true contents.stated (2 ^ 40) stated; numbers = numbers; rows = leb-true (length contents.rows) (2 ^ 26) rows; puts = leb-true (length (puts_of contents.rows)) (2 ^ 26) puts }

-- a row more keeps the bounds where it may follow
pub bounded_more : (contents : Contents) (row : PatchRow) → is_bounded contents ≡ true → is_bounded (with_row contents row) ≡ may_follow contents row
unfolding is_bounded
bounded_more contents row bounded =
    let w = within contents bounded in
    let numbers : list_all has_small_numbers (contents.rows ++ row ∷ []) ≡ has_small_numbers row = list_all-append has_small_numbers contents.rows (row ∷ []) ∙ rw w.numbers (and_true (has_small_numbers row)) in
    let rows : nat_le (length (contents.rows ++ row ∷ [])) (2 ^ 26) ≡ nat_lt (length contents.rows) (2 ^ 26) = rw (length-append contents.rows (row ∷ [])) (le_of_lt (length contents.rows)) in
    rw (le-leb contents.stated (2 ^ 40) w.stated, numbers, rows, length-puts_of-last contents.rows row) refl where
      and_true : (b : Bool) → (b && true) ≡ b
      and_true true = refl
      and_true false = refl

      le_of_lt : (n : ℕ) → nat_le (n + 1) (2 ^ 26) ≡ nat_lt n (2 ^ 26)
      le_of_lt n = grind arith

-- a file without rows keeps the bounds
pub bounded_none : (stated : ℕ) → stated ≤ 2 ^ 40 → is_bounded (no_rows stated) ≡ true
unfolding is_bounded
bounded_none stated small = rw (le-leb stated (2 ^ 40) small) refl

-- by what a row brings it is told whether it may follow
pub told : (contents : Contents) (row : PatchRow) (small takes : Bool) → is_bounded contents ≡ true → small ≡ has_small_numbers row → takes ≡ (small && has_room contents (length (put_of row))) → is_bounded (with_row contents row) ≡ takes
told contents row small takes bounded same is = bounded_more contents row bounded ∙ rw (is, same) refl

-- what is left of the bases that may be put
left_told : (put_bases put : ℕ) → put_bases ≤ 2 ^ 26 → nat_le put (2 ^ 26 - put_bases) ≡ nat_le (put_bases + put) (2 ^ 26)
left_told put_bases put most =
    elim (cases_lt (2 ^ 26) (put_bases + put)) [
      | inl h ↦ lt-leb put (2 ^ 26 - put_bases) (omega (arith, h)) ∙ sym (lt-leb (put_bases + put) (2 ^ 26) h)
      | inr h ↦ le-leb put (2 ^ 26 - put_bases) (omega (arith, h)) ∙ sym (le-leb (put_bases + put) (2 ^ 26) h)
    ]

grouped : (a b c : Bool) → ((a && b) && c) ≡ (a && (b && c))
grouped true b c = refl
grouped false b c = refl

pub room_told : (put_bases put rows : ℕ) (small : Bool) → put_bases ≤ 2 ^ 26 → ((small && nat_lt rows (2 ^ 26)) && nat_le put (2 ^ 26 - put_bases)) ≡ (small && (nat_lt rows (2 ^ 26) && nat_le (put_bases + put) (2 ^ 26)))
room_told put_bases put rows small most = rw (left_told put_bases put most) (grouped small (nat_lt rows (2 ^ 26)) (nat_le (put_bases + put) (2 ^ 26)))

pub puts_fit : (contents : Contents) (row : PatchRow) → is_bounded (with_row contents row) ≡ true → length (puts_of contents.rows) + length (put_of row) ≤ 2 ^ 26
puts_fit contents row bounded = omega (arith, (within (with_row contents row) bounded).puts, length-puts_of-last contents.rows row)
