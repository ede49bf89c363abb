-- Each act makes a picture of each picture, and so does a list of commands.
use Rattle.std.proofs.Common.{◌≡◌, ℕ, ◌*◌, ◌<◌, ◌≤◌, Bool, true, false, List, [], ◌∷◌, ◌++◌, Option, Some, None, length, refl, ◌∙◌, arith}
use Rattle.std.specs.Prelude.{nat_lt}
use Rattle.std.proofs.lemmas.Bool.{ltb-true}
use Rattle.std.proofs.Math.ListN.{length-replicate}
use Rattle.fuun_base.specs.declared.letters.Base.{Base}
use Rattle.rna_code.specs.declared.acts.Ink.{Ink}
use Rattle.rna_code.specs.declared.acts.Act.{Act}
use Rattle.rna_code.specs.declared.acts.Act.TheVariants.{Add, EmptyBucket, Move, TurnLeft, TurnRight, Mark, Line, Fill, AddLayer, CopyLayer, Compose, Clip}
use Rattle.canvas.specs.declared.pixel.Spot.{Spot}
use Rattle.canvas.specs.Pixels.{Rgba, IsInside, IsSquare, blank, transparent}
use Rattle.canvas.specs.Buckets.{current_pixel}
use Rattle.line_draw.specs.Lines.{IsLine}
use Rattle.line_draw.proofs.Drawn.{a_line}
use Rattle.flood.specs.Region.{IsFill}
use Rattle.flood.proofs.Fills.{a_fill}
use Rattle.layers.specs.Layers.{clipped, over, top_of, with_copy, with_layer, with_merged}
use Rattle.layers.specs.Lending.{with_top}
use Rattle.layers.proofs.EachPlace.{length-each_place}
use Rattle.painter.specs.declared.direction.Direction.{Direction}
use Rattle.painter.specs.declared.direction.Direction.TheVariants.{North, East, South, West}
use Rattle.painter.specs.Picture.{Picture, Table, Does, DoesIfAny, Builds, left_of, moved, right_of, start}
use Rattle.painter.specs.PictureLaws.{AreSquare, IsPicture}
use Rattle.painter.proofs.Drawings.{drawn}

blank_square : (side : ℕ) → 1 ≤ side → side ≤ 1024 → IsSquare side (blank side)
blank_square side nonempty small = record { nonempty = nonempty; small = small; filled = length-replicate (side * side) transparent }

pub start_is_picture : (side most : ℕ) → 1 ≤ side → side ≤ 1024 → 1 ≤ most → IsPicture side most (start side)
start_is_picture side most nonempty small room = record {
  nonempty = nonempty;
  small = small;
  position = (omega arith, omega arith);
  aim = (omega arith, omega arith);
  some = omega arith;
  few = omega arith;
  squares = (blank_square side nonempty small, tt);
}

-- other layers
record AreLayers (side most : ℕ) (layers : List (List Rgba)) : Type 0 where
  some : 1 ≤ length layers
  few : length layers ≤ most
  squares : AreSquare side layers

layers_of : (side most : ℕ) (p : Picture) → IsPicture side most p → AreLayers side most p.layers
layers_of side most p is = record { some = is.some; few = is.few; squares = is.squares }

with_layers : (side most : ℕ) (p : Picture) (layers : List (List Rgba)) → IsPicture side most p → AreLayers side most layers → IsPicture side most (record p { layers = layers })
with_layers side most p layers is are = record { nonempty = is.nonempty; small = is.small; position = is.position; aim = is.aim; some = are.some; few = are.few; squares = are.squares }

layer_added : (side most : ℕ) (layers : List (List Rgba)) (room : Bool) → nat_lt (length layers) most ≡ room → 1 ≤ side → side ≤ 1024 → AreLayers side most layers → AreLayers side most (with_layer side most layers)
layer_added side most layers true is nonempty small are =
    let below : length layers < most = ltb-true (length layers) most is in
    rw is (record { some = omega arith; few = omega arith; squares = (blank_square side nonempty small, are.squares) })
layer_added side most layers false is nonempty small are = rw is are

top_square : (side most : ℕ) (layers : List (List Rgba)) → AreLayers side most layers → IsSquare side (top_of layers)
top_square side most [] are = absurd (omega (arith, are.some))
top_square side most (top ∷ below) are = are.squares.0

layer_copied : (side most : ℕ) (layers : List (List Rgba)) (room : Bool) → nat_lt (length layers) most ≡ room → AreLayers side most layers → AreLayers side most (with_copy most layers)
layer_copied side most layers true is are =
    let below : length layers < most = ltb-true (length layers) most is in
    rw is (record { some = omega arith; few = omega arith; squares = (top_square side most layers are, are.squares) })
layer_copied side most layers false is are = rw is are

merged : (side most : ℕ) (f : Rgba → Rgba → Rgba) (layers : List (List Rgba)) → AreLayers side most layers → AreLayers side most (with_merged f layers)
merged side most f [] are = are
merged side most f (top ∷ []) are = are
merged side most f (top ∷ next ∷ below) are =
    let a = are.squares.0 in
    let b = are.squares.1.0 in
    let same : length top ≡ length next = omega (arith, a.filled, b.filled) in
    record {
      some = omega arith;
      few = omega (arith, are.few);
      squares = (record { nonempty = a.nonempty; small = a.small; filled = length-each_place f top next same ∙ a.filled }, are.squares.1.1);
    }

top_drawn : (side most : ℕ) (layers : List (List Rgba)) (now : List Rgba) → IsSquare side now → AreLayers side most layers → AreLayers side most (with_top layers now)
top_drawn side most [] now square are = absurd (omega (arith, are.some))
top_drawn side most (top ∷ below) now square are = record { some = omega arith; few = are.few; squares = (square, are.squares.1) }

moved_inside : (side : ℕ) (facing : Direction) (s : Spot) → 1 ≤ side → IsInside side s → IsInside side (moved side facing s)
moved_inside side North s nonempty inside = (inside.0, omega arith)
moved_inside side East s nonempty inside = (omega arith, inside.1)
moved_inside side South s nonempty inside = (inside.0, omega arith)
moved_inside side West s nonempty inside = (omega arith, inside.1)

with_rest : (side most : ℕ) (p : Picture) (bucket : List Ink) (position aim : Spot) (facing : Direction) → IsPicture side most p → IsInside side position → IsInside side aim → IsPicture side most (record { bucket = bucket; at = position; mark = aim; facing = facing; layers = p.layers })
with_rest side most p bucket position aim facing is in_position in_aim = record { nonempty = is.nonempty; small = is.small; position = in_position; aim = in_aim; some = is.some; few = is.few; squares = is.squares }

abbrev Outcome : ℕ → ℕ → Act → Picture → Type 0
Outcome side most act p = (q : Picture) × (Does side most act p q × IsPicture side most q)

line_outcome : (side most : ℕ) (p : Picture) → IsPicture side most p → Outcome side most Line p
line_outcome side most p is =
    let are = layers_of side most p is in
    let made = a_line side (top_of p.layers) p.at p.mark (current_pixel p.bucket) (top_square side most p.layers are) in
    let q : Picture = record p { layers = with_top p.layers made.0 } in
    (q, (drawn p q (λ was now. IsLine side was p.at p.mark (current_pixel p.bucket) now) made.0 made.1 refl, with_layers side most p (with_top p.layers made.0) is (top_drawn side most p.layers made.0 made.1.square are)))

fill_outcome : (side most : ℕ) (p : Picture) → IsPicture side most p → Outcome side most Fill p
fill_outcome side most p is =
    let are = layers_of side most p is in
    let made = a_fill side (top_of p.layers) p.at (current_pixel p.bucket) (top_square side most p.layers are) is.position in
    let q : Picture = record p { layers = with_top p.layers made.0 } in
    (q, (drawn p q (λ was now. IsFill side was p.at (current_pixel p.bucket) now) made.0 made.1 refl, with_layers side most p (with_top p.layers made.0) is (top_drawn side most p.layers made.0 made.1.square are)))

pub acts_always : (side most : ℕ) (act : Act) (p : Picture) → IsPicture side most p → Outcome side most act p
acts_always side most (Add ink) p is = (record p { bucket = p.bucket ++ ink ∷ [] }, (refl, with_rest side most p (p.bucket ++ ink ∷ []) p.at p.mark p.facing is is.position is.aim))
acts_always side most EmptyBucket p is = (record p { bucket = [] }, (refl, with_rest side most p [] p.at p.mark p.facing is is.position is.aim))
acts_always side most Move p is = (record p { at = moved side p.facing p.at }, (refl, with_rest side most p p.bucket (moved side p.facing p.at) p.mark p.facing is (moved_inside side p.facing p.at is.nonempty is.position) is.aim))
acts_always side most TurnLeft p is = (record p { facing = left_of p.facing }, (refl, with_rest side most p p.bucket p.at p.mark (left_of p.facing) is is.position is.aim))
acts_always side most TurnRight p is = (record p { facing = right_of p.facing }, (refl, with_rest side most p p.bucket p.at p.mark (right_of p.facing) is is.position is.aim))
acts_always side most Mark p is = (record p { mark = p.at }, (refl, with_rest side most p p.bucket p.at p.at p.facing is is.position is.position))
acts_always side most Line p is = line_outcome side most p is
acts_always side most Fill p is = fill_outcome side most p is
acts_always side most AddLayer p is = (record p { layers = with_layer side most p.layers }, (refl, with_layers side most p (with_layer side most p.layers) is (layer_added side most p.layers (nat_lt (length p.layers) most) refl is.nonempty is.small (layers_of side most p is))))
acts_always side most CopyLayer p is = (record p { layers = with_copy most p.layers }, (refl, with_layers side most p (with_copy most p.layers) is (layer_copied side most p.layers (nat_lt (length p.layers) most) refl (layers_of side most p is))))
acts_always side most Compose p is = (record p { layers = with_merged over p.layers }, (refl, with_layers side most p (with_merged over p.layers) is (merged side most over p.layers (layers_of side most p is))))
acts_always side most Clip p is = (record p { layers = with_merged clipped p.layers }, (refl, with_layers side most p (with_merged clipped p.layers) is (merged side most clipped p.layers (layers_of side most p is))))

any_always : (side most : ℕ) (act : Option Act) (p : Picture) → IsPicture side most p → (q : Picture) × (DoesIfAny side most act p q × IsPicture side most q)
any_always side most None p is = (p, (refl, is))
any_always side most (Some act) p is = acts_always side most act p is

pub builds_always : (side most : ℕ) (table : Table) (rna : List (List Base)) (p : Picture) → IsPicture side most p → (q : Picture) × (Builds side most table rna p q × IsPicture side most q)
builds_always side most table [] p is = (p, (refl, is))
builds_always side most table (command ∷ rest) p is =
    let first = any_always side most (table command) p is in
    let last = builds_always side most table rest first.0 first.1.1 in
    (last.0, ((first.0, (first.1.0, last.1.0)), last.1.1))
