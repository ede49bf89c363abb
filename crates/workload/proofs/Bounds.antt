-- Light rows keep the bounds of a file.
use Rattle.std.proofs.Common.{◌≡◌, ◌*◌, ◌≤◌, ◌^◌, ◌&&◌, true, List, [], ◌∷◌, ◌++◌, length, nat_le, arith, refl, ◌∙◌, length-append}
use Rattle.std.specs.List.{list_all}
use Rattle.std.proofs.lemmas.Bool.{and_parts, le-leb, leb-true, false≢true}
use Rattle.std.proofs.lemmas.List.Folds.{list_all-append}
use Rattle.patch_text.specs.declared.rows.PatchRow.{PatchRow}
use Rattle.patch_text.specs.declared.rows.PatchRow.TheVariants.{Edit, Copy, Move}
use Rattle.patch_text.specs.Contents.{Contents, with_row, is_bounded, has_small_numbers, put_of, puts_of}
use Rattle.workload.specs.Laws.{is_light}
use Rattle.workload.specs.Room.{HasRoom}

-- what a light row has
record Light (row : PatchRow) : Type 0 where
  pub small : has_small_numbers row ≡ true
  pub put : length (put_of row) ≤ 7

light : (row : PatchRow) → is_light (2 ^ 25) row ≡ true → Light row
light (Edit place cut put) is =
    let (at, rest) = and_parts (nat_le place (2 ^ 25)) (nat_le cut 15 && nat_le (length put) 7) is in
    let (few, most) = and_parts (nat_le cut 15) (nat_le (length put) 7) rest in
    record {
      small = rw (le-leb place (2 ^ 40) (omega (arith, leb-true place (2 ^ 25) at)), le-leb cut (2 ^ 40) (omega (arith, leb-true cut 15 few))) refl;
      put = leb-true (length put) 7 most;
    }
light (Copy source count target) is = absurd (false≢true is)
light (Move source count target) is = absurd (false≢true is)

all_small : (rows : List PatchRow) → list_all (is_light (2 ^ 25)) rows ≡ true → list_all has_small_numbers rows ≡ true
all_small [] is = refl
all_small (row ∷ rows) is =
    let (one, more) = and_parts (is_light (2 ^ 25) row) (list_all (is_light (2 ^ 25)) rows) is in
    rw ((light row one).small, all_small rows more) refl

puts_most : (rows : List PatchRow) → list_all (is_light (2 ^ 25)) rows ≡ true → length (puts_of rows) ≤ 7 * length rows
puts_most [] is = omega arith
puts_most (row ∷ rows) is =
    let (one, more) = and_parts (is_light (2 ^ 25) row) (list_all (is_light (2 ^ 25)) rows) is in
    omega (arith, (light row one).put, puts_most rows more, length-append (put_of row) (puts_of rows))

pub light_more : (rows : List PatchRow) (row : PatchRow) → list_all (is_light (2 ^ 25)) rows ≡ true → is_light (2 ^ 25) row ≡ true → list_all (is_light (2 ^ 25)) (rows ++ row ∷ []) ≡ true
light_more rows row before one = list_all-append (is_light (2 ^ 25)) rows (row ∷ []) ∙ rw (before, one) refl

pub bounded_more : (contents : Contents) (row : PatchRow) → HasRoom contents → is_light (2 ^ 25) row ≡ true → is_bounded (with_row contents row) ≡ true
unfolding is_bounded
bounded_more contents row room one =
    let rows = contents.rows ++ row ∷ [] in
    let all = light_more contents.rows row room.light one in
    let counted : length rows ≤ 2 ^ 16 = omega (arith, room.rows, length-append contents.rows (row ∷ [])) in
    rw (le-leb contents.stated (2 ^ 40) room.stated, all_small rows all, le-leb (length rows) (2 ^ 26) (omega (arith, counted)), le-leb (length (puts_of rows)) (2 ^ 26) (omega (arith, counted, puts_most rows all))) refl
