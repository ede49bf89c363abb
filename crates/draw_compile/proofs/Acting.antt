-- What the commands of a drawing do to a picture.
use Rattle.std.proofs.Common.{◌≡◌, ℕ, zero, suc, ◌+◌, ◌%◌, ◌<◌, Bool, true, false, Some, List, [], ◌∷◌, ◌++◌, map, refl, sym, ap, subst, arith, append_assoc, append-nil}
use Rattle.std.specs.Prelude.{nat_lt, replicate}
use Rattle.std.specs.List.{range_with_len}
use Rattle.std.proofs.Math.Nat.{mod-eq_of_lt}
use Rattle.fuun_base.specs.declared.letters.Base.{Base}
use Rattle.rna_code.specs.declared.acts.Act.{Act}
use Rattle.rna_code.specs.declared.acts.Act.TheVariants.{Add, EmptyBucket, Move, TurnLeft, TurnRight, Mark, Line}
use Rattle.rna_code.specs.declared.acts.Ink.{Ink}
use Rattle.rna_code.specs.declared.profile.Profile.TheVariants.{Plain}
use Rattle.rna_code.specs.Commands.{act_of, row_of, spells}
use Rattle.canvas.specs.declared.pixel.Spot.{Spot}
use Rattle.canvas.specs.Pixels.{Rgba}
use Rattle.painter.specs.declared.direction.Direction.TheVariants.{East}
use Rattle.painter.specs.Picture.{Picture, Table, Acts, Builds, Does, DoesIfAny}
use Rattle.picture_in.specs.Pixmap.{Rgb}
use Rattle.draw_compile.specs.Drawing.{colour_command, draw_line, empty_bucket, ink_command, inks, move, set_mark, turn_clockwise, turn_counterclockwise}
use Rattle.draw_compile.proofs.InkLemmas.{bucket_of, ink_at, ink_of}
use Rattle.draw_compile.proofs.Stretches.{spot}

-- a table has the commands of a drawing
pub record Knows (table : Table) : Type 0 where
  pub emptied : table empty_bucket ≡ Some EmptyBucket
  pub marked : table set_mark ≡ Some Mark
  pub moved : table move ≡ Some Move
  pub drawn : table draw_line ≡ Some Line
  pub clockwise : table turn_clockwise ≡ Some TurnRight
  pub counterclockwise : table turn_counterclockwise ≡ Some TurnLeft
  pub coloured : (red green blue : Bool) → table (colour_command red green blue) ≡ Some (Add (ink_of red green blue))

coloured_plainly : (red green blue : Bool) → act_of Plain (colour_command red green blue) ≡ Some (Add (ink_of red green blue))
unfolding row_of spells
coloured_plainly false false false = refl
coloured_plainly true false false = refl
coloured_plainly false true false = refl
coloured_plainly true true false = refl
coloured_plainly false false true = refl
coloured_plainly true false true = refl
coloured_plainly false true true = refl
coloured_plainly true true true = refl

pub plain_knows : Knows (act_of Plain)
unfolding row_of spells
plain_knows = record {
  emptied = refl;
  marked = refl;
  moved = refl;
  drawn = refl;
  clockwise = refl;
  counterclockwise = refl;
  coloured = coloured_plainly;
}

-- a picture of one bitmap, facing east
abbrev pub canvas_of : List Ink → Spot → Spot → List Rgba → Picture
canvas_of bucket at mark bitmap = record { bucket = bucket; at = at; mark = mark; facing = East; layers = bitmap ∷ [] }

module _ (side most : ℕ) (table : Table) where
  -- a command does its act
  pub acts : (command : List Base) (act : Act) (p q : Picture) → table command ≡ Some act → Does side most act p q → Acts side most table command p q
  acts command act p q is does = subst (λ o. DoesIfAny side most o p q) (sym is) does

module _ (side most : ℕ) (table : Table) (knows : Knows table) where
  -- moves within a row
  pub moves_east : (n x y stop : ℕ) (bucket : List Ink) (mark : Spot) (bitmap : List Rgba) → stop ≡ x + n → stop < side
      → Builds side most table (replicate n move) (canvas_of bucket (spot x y) mark bitmap) (canvas_of bucket (spot stop y) mark bitmap)
  moves_east zero x y stop bucket mark bitmap is within =
      let same : stop ≡ x = omega arith in
      ap (λ k. canvas_of bucket (spot k y) mark bitmap) same
  moves_east (suc n) x y stop bucket mark bitmap is within =
      let here : Picture = canvas_of bucket (spot x y) mark bitmap in
      let next : Picture = canvas_of bucket (spot (x + 1) y) mark bitmap in
      let inside : x + 1 < side = omega arith in
      let step : next ≡ canvas_of bucket (spot ((x + 1) % side) y) mark bitmap = ap (λ k. canvas_of bucket (spot k y) mark bitmap) (sym (mod-eq_of_lt inside)) in
      (next, (acts side most table move Move here next knows.moved step, moves_east n (x + 1) y stop bucket mark bitmap (omega arith) within))

  -- inks are added one after another
  inks_added : (p : Rgb) (ks : List ℕ) (bucket : List Ink) (at mark : Spot) (bitmap : List Rgba)
      → Builds side most table (map (ink_command p) ks) (canvas_of bucket at mark bitmap) (canvas_of (bucket ++ map (ink_at p) ks) at mark bitmap)
  inks_added p [] bucket at mark bitmap = ap (λ b. canvas_of b at mark bitmap) (append-nil bucket)
  inks_added p (k ∷ ks) bucket at mark bitmap =
      let ink : Ink = ink_at p k in
      let here : Picture = canvas_of bucket at mark bitmap in
      let next : Picture = canvas_of (bucket ++ ink ∷ []) at mark bitmap in
      let all : (bucket ++ ink ∷ []) ++ map (ink_at p) ks ≡ bucket ++ (ink ∷ map (ink_at p) ks) = append_assoc bucket (ink ∷ []) (map (ink_at p) ks) in
      let further : Builds side most table (map (ink_command p) ks) next (canvas_of (bucket ++ (ink ∷ map (ink_at p) ks)) at mark bitmap) =
      subst (λ b. Builds side most table (map (ink_command p) ks) next (canvas_of b at mark bitmap)) all (inks_added p ks (bucket ++ ink ∷ []) at mark bitmap) in
      (next, (acts side most table (ink_command p k) (Add ink) here next (knows.coloured (nat_lt k p.0) (nat_lt k p.1) (nat_lt k p.2)) refl, further))

  pub bucket_filled : (p : Rgb) (count : ℕ) (at mark : Spot) (bitmap : List Rgba)
      → Builds side most table (inks p count) (canvas_of [] at mark bitmap) (canvas_of (bucket_of p count) at mark bitmap)
  unfolding inks bucket_of
  bucket_filled p count at mark bitmap = inks_added p (range_with_len 0 count) [] at mark bitmap
