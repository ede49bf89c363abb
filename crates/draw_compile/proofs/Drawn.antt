-- A picture is drawn run by run and row by row.
use Rattle.std.proofs.Common.{◌≡◌, ℕ, zero, suc, ◌+◌, ◌-◌, ◌*◌, ◌%◌, ◌<◌, ◌≤◌, inl, inr, Bool, true, false, Option, Some, None, List, [], ◌∷◌, ◌++◌, length, drop, get_or, refl, sym, ap, ◌∙◌, subst, arith, length-drop}
use Rattle.std.specs.Prelude.{if◌then◌else◌, not, replicate}
use Rattle.std.proofs.Math.Nat.{mod-eq_of_lt, mod_self, mul-le-mul_right}
use Rattle.std.proofs.lemmas.Bool.{cases_lt}
use Rattle.std.proofs.lemmas.List.{get_or-drop, length-replicate}
use Rattle.fuun_base.specs.declared.letters.Base.{Base}
use Rattle.rna_code.specs.declared.acts.Act.TheVariants.{EmptyBucket, Move, TurnLeft, TurnRight, Mark, Line}
use Rattle.rna_code.specs.declared.acts.Ink.{Ink}
use Rattle.canvas.specs.declared.pixel.Spot.{Spot}
use Rattle.canvas.specs.Pixels.{IsSquare, Rgba, blank, pixel_at, transparent, with_span}
use Rattle.canvas.specs.Buckets.{current_pixel}
use Rattle.canvas.proofs.PixelLemmas.{IsSquare-with_span, pixel_at-with_span, pixel_at-with_span_other}
use Rattle.line_draw.specs.Lines.{IsLine}
use Rattle.layers.specs.Layers.{top_of}
use Rattle.painter.specs.declared.direction.Direction.TheVariants.{South}
use Rattle.painter.specs.Picture.{Picture, Table, Builds, start}
use Rattle.painter.specs.Taking.{builds_append}
use Rattle.painter.proofs.Drawings.{drawn}
use Rattle.picture_in.specs.Pixmap.{Rgb, IsBytes, black}
use Rattle.draw_compile.specs.declared.runs.Run.{Run}
use Rattle.draw_compile.specs.Runs.{row_at, runs_from, runs_of, same}
use Rattle.draw_compile.specs.Drawing.{commands_of, draw_line, empty_bucket, filling, inks, last_pixel, move, row_commands, run_commands, set_mark, turn_clockwise, turn_counterclockwise}
use Rattle.draw_compile.specs.Law.{opaque}
use Rattle.draw_compile.proofs.RunLemmas.{Covers, covers, length-row_at, row_at-pixel, same-true}
use Rattle.draw_compile.proofs.InkLemmas.{bucket_of, bucket-pixel}
use Rattle.draw_compile.proofs.Stretches.{line_is_stretch, spot}
use Rattle.draw_compile.proofs.Acting.{Knows, acts, bucket_filled, canvas_of, moves_east}

-- the bucket has the colour of the run before, if there is one
abbrev pub Agrees : Option Rgb → List Ink → Type 0
Agrees None bucket = Unit {0}
Agrees (Some p) bucket = current_pixel bucket ≡ opaque p

module _ (side most : ℕ) (table : Table) (knows : Knows table) where
  -- the bucket has the colour of a pixel after these commands
  record IsFilled (commands : List (List Base)) (p : Rgb) (bucket : List Ink) (at mark : Spot) (bitmap : List Rgba) : Type 0 where
    filled : List Ink
    colour : current_pixel filled ≡ opaque p
    builds : Builds side most table commands (canvas_of bucket at mark bitmap) (canvas_of filled at mark bitmap)

  newly_filled : (p : Rgb) (bucket : List Ink) (at mark : Spot) (bitmap : List Rgba) → IsBytes p → IsFilled (empty_bucket ∷ inks p 255) p bucket at mark bitmap
  newly_filled p bucket at mark bitmap small = record {
    filled = bucket_of p 255;
    colour = bucket-pixel p 255 refl small;
    builds = (
      canvas_of [] at mark bitmap,
      (
        acts side most table empty_bucket EmptyBucket (canvas_of bucket at mark bitmap) (canvas_of [] at mark bitmap) knows.emptied refl,
        bucket_filled side most table knows p 255 at mark bitmap,
      ),
    );
  }

  filled_by : (q p : Rgb) (b : Bool) (bucket : List Ink) (at mark : Spot) (bitmap : List Rgba) → same q p ≡ b → IsBytes p → current_pixel bucket ≡ opaque q
      → IsFilled (if not b then empty_bucket ∷ inks p 255 else []) p bucket at mark bitmap
  filled_by q p true bucket at mark bitmap is small colour = record {
    filled = bucket;
    colour = colour ∙ ap opaque (same-true q p is);
    builds = refl;
  }
  filled_by q p false bucket at mark bitmap is small colour = newly_filled p bucket at mark bitmap small

  is_filled : (before : Option Rgb) (p : Rgb) (bucket : List Ink) (at mark : Spot) (bitmap : List Rgba) → IsBytes p → Agrees before bucket → IsFilled (filling before p) p bucket at mark bitmap
  is_filled None p bucket at mark bitmap small agrees = newly_filled p bucket at mark bitmap small
  is_filled (Some q) p bucket at mark bitmap small agrees = filled_by q p (same q p) bucket at mark bitmap refl small agrees

  -- the line of a stretch
  stretch_drawn : (p : Rgb) (x k y stop : ℕ) (bucket : List Ink) (mark : Spot) (bitmap : List Rgba) → IsSquare side bitmap → stop ≡ x + k + 1 → stop ≤ side → y < side → current_pixel bucket ≡ opaque p
      → Builds side most table (set_mark ∷ (replicate k move ++ (draw_line ∷ move ∷ []))) (canvas_of bucket (spot x y) mark bitmap)
      (canvas_of bucket (spot (stop % side) y) (spot x y) (with_span side bitmap y x stop (opaque p)))
  stretch_drawn p x k y stop bucket mark bitmap square is in_x in_y colour =
      let now : List Rgba = with_span side bitmap y x stop (opaque p) in
      let first : Picture = canvas_of bucket (spot x y) mark bitmap in
      let marked : Picture = canvas_of bucket (spot x y) (spot x y) bitmap in
      let moved : Picture = canvas_of bucket (spot (x + k) y) (spot x y) bitmap in
      let lined : Picture = canvas_of bucket (spot (x + k) y) (spot x y) now in
      let last : Picture = canvas_of bucket (spot (stop % side) y) (spot x y) now in
      let line : IsLine side bitmap (spot (x + k) y) (spot x y) (current_pixel bucket) now =
      subst (λ c. IsLine side bitmap (spot (x + k) y) (spot x y) c now) (sym colour) (line_is_stretch x k y side stop bitmap (opaque p) square is in_x in_y) in
      let draws = drawn moved lined (λ old new. IsLine side old moved.at moved.mark (current_pixel moved.bucket) new) now line refl in
      let on : last ≡ canvas_of bucket (spot ((x + k + 1) % side) y) (spot x y) now = ap (λ n. canvas_of bucket (spot (n % side) y) (spot x y) now) is in
      let ends : Builds side most table (draw_line ∷ move ∷ []) moved last =
      (lined, (acts side most table draw_line Line moved lined knows.drawn draws, (last, (acts side most table move Move lined last knows.moved on, refl)))) in (
        marked,
        (
          acts side most table set_mark Mark first marked knows.marked refl,
          builds_append side most table (replicate k move) (draw_line ∷ move ∷ []) marked moved last
              (moves_east side most table knows k x y (x + k) bucket (spot x y) bitmap refl (omega arith))
              ends,
        ),
      )

  -- a run is a stretch of its pixel
  record RunDrawn (commands : List (List Base)) (run : Run) (x y stop : ℕ) (bucket : List Ink) (mark : Spot) (bitmap : List Rgba) : Type 0 where
    filled : List Ink
    colour : current_pixel filled ≡ opaque run.pixel
    builds : Builds side most table commands (canvas_of bucket (spot x y) mark bitmap)
        (canvas_of filled (spot (stop % side) y) (spot x y) (with_span side bitmap y x stop (opaque run.pixel)))

  run_drawn : (before : Option Rgb) (run : Run) (x y stop : ℕ) (bucket : List Ink) (mark : Spot) (bitmap : List Rgba)
      → IsSquare side bitmap → 1 ≤ run.len → stop ≡ x + run.len → stop ≤ side → y < side → IsBytes run.pixel → Agrees before bucket
      → RunDrawn (run_commands before run) run x y stop bucket mark bitmap
  run_drawn before run x y stop bucket mark bitmap square some is in_x in_y small agrees =
      let k : ℕ = run.len - 1 in
      let fill = is_filled before run.pixel bucket (spot x y) mark bitmap small agrees in
      let last : Picture = canvas_of fill.filled (spot (stop % side) y) (spot x y) (with_span side bitmap y x stop (opaque run.pixel)) in
      record {
        filled = fill.filled;
        colour = fill.colour;
        builds = builds_append side most table (filling before run.pixel) (set_mark ∷ (replicate k move ++ (draw_line ∷ move ∷ [])))
            (canvas_of bucket (spot x y) mark bitmap) (canvas_of fill.filled (spot x y) mark bitmap) last
            fill.builds (stretch_drawn run.pixel x k y stop fill.filled mark bitmap square (omega arith) in_x in_y fill.colour);
      }

  -- the rest of a row, from x on
  record RowDrawn (commands : List (List Base)) (after : Option Rgb) (row : List Rgb) (x y at : ℕ) (bucket : List Ink) (mark : Spot) (bitmap : List Rgba) : Type 0 where
    filled : List Ink
    aim : Spot
    now : List Rgba
    agrees : Agrees after filled
    square : IsSquare side now
    builds : Builds side most table commands (canvas_of bucket (spot at y) mark bitmap) (canvas_of filled (spot 0 ((y + 1) % side)) aim now)
    pixels : (k : ℕ) → k < length row → pixel_at side now (x + k) y ≡ opaque (get_or row k black)
    west : (u : ℕ) → u < x → pixel_at side now u y ≡ pixel_at side bitmap u y
    others : (u v : ℕ) → u < side → (v ≡ y → ⊥) → pixel_at side now u v ≡ pixel_at side bitmap u v

  row_ended : (before : Option Rgb) (row : List Rgb) (x y at : ℕ) (bucket : List Ink) (mark : Spot) (bitmap : List Rgba)
      → row ≡ [] → x + length row ≡ side → at ≡ x % side → IsSquare side bitmap → Agrees before bucket
      → RowDrawn (row_commands before []) before row x y at bucket mark bitmap
  row_ended before row x y at bucket mark bitmap none whole is square agrees =
      let length_none : length row ≡ 0 = ap length none in
      let all : x ≡ side = omega arith in
      let west_end : at ≡ 0 = is ∙ ap (λ n. n % side) all ∙ mod_self side in
      let next : ℕ = (y + 1) % side in
      let first : Picture = canvas_of bucket (spot at y) mark bitmap in
      let turned : Picture = record first { facing = South } in
      let moved : Picture = record turned { at = spot at next } in
      let last : Picture = canvas_of bucket (spot at next) mark bitmap in
      let built : Builds side most table (turn_clockwise ∷ move ∷ turn_counterclockwise ∷ []) first last = (
        turned,
        (
          acts side most table turn_clockwise TurnRight first turned knows.clockwise refl,
          (
            moved,
            (
              acts side most table move Move turned moved knows.moved refl,
              (last, (acts side most table turn_counterclockwise TurnLeft moved last knows.counterclockwise refl, refl)),
            ),
          ),
        ),
      ) in
      record {
        filled = bucket;
        aim = mark;
        now = bitmap;
        agrees = agrees;
        square = square;
        builds = subst (λ n. Builds side most table (turn_clockwise ∷ move ∷ turn_counterclockwise ∷ []) first (canvas_of bucket (spot n next) mark bitmap)) west_end built;
        pixels = λ k below. absurd (omega arith);
        west = λ u before_x. refl;
        others = λ u v in_x other. refl;
      }

  -- the pixels of a run and of those behind it
  row_pixels : (run : Run) (row : List Rgb) (x y stop : ℕ) (bitmap now : List Rgba)
      → stop ≡ x + run.len → stop ≤ side → y < side → IsSquare side bitmap → ((k : ℕ) → k < run.len → get_or row k black ≡ run.pixel)
      → ((u : ℕ) → u < stop → pixel_at side now u y ≡ pixel_at side (with_span side bitmap y x stop (opaque run.pixel)) u y)
      → ((k : ℕ) → k < length (drop run.len row) → pixel_at side now (stop + k) y ≡ opaque (get_or (drop run.len row) k black))
      → (k : ℕ) → k < length row → pixel_at side now (x + k) y ≡ opaque (get_or row k black)
  row_pixels run row x y stop bitmap now is in_x in_y square all west behind k below =
      elim (cases_lt k run.len) [
        | inl within ↦
            west (x + k) (omega arith)
            ∙ pixel_at-with_span side bitmap y x stop (x + k) (opaque run.pixel) square in_y (omega arith) (omega arith) in_x
            ∙ ap opaque (sym (all k within))
        | inr past ↦
            let j : ℕ = k - run.len in
            let place : x + k ≡ stop + j = omega arith in
            let from : run.len + j ≡ k = omega arith in
            ap (λ n. pixel_at side now n y) place
            ∙ behind j (omega (arith, length-drop run.len row))
            ∙ ap opaque (get_or-drop run.len row j black ∙ ap (λ n. get_or row n black) from)
      ]

  -- the pixels west of a run
  row_west : (run : Run) (x y stop : ℕ) (bitmap now : List Rgba) → stop ≤ side → y < side → IsSquare side bitmap → 1 ≤ run.len → stop ≡ x + run.len
      → ((u : ℕ) → u < stop → pixel_at side now u y ≡ pixel_at side (with_span side bitmap y x stop (opaque run.pixel)) u y)
      → (u : ℕ) → u < x → pixel_at side now u y ≡ pixel_at side bitmap u y
  row_west run x y stop bitmap now in_x in_y square some is behind u before_x =
      behind u (omega arith) ∙ pixel_at-with_span_other side bitmap y x stop u y (opaque run.pixel) square in_y (omega arith) in_x (omega arith) (λ same_row from to. omega arith)

  -- the pixels of other rows
  row_others : (run : Run) (x y stop : ℕ) (bitmap now : List Rgba) → stop ≤ side → y < side → IsSquare side bitmap → x ≤ stop
      → ((u v : ℕ) → u < side → (v ≡ y → ⊥) → pixel_at side now u v ≡ pixel_at side (with_span side bitmap y x stop (opaque run.pixel)) u v)
      → (u v : ℕ) → u < side → (v ≡ y → ⊥) → pixel_at side now u v ≡ pixel_at side bitmap u v
  row_others run x y stop bitmap now in_x in_y square order behind u v in_side other =
      behind u v in_side other ∙ pixel_at-with_span_other side bitmap y x stop u v (opaque run.pixel) square in_y order in_x in_side (λ same_row from to. other same_row)

  row_drawn : (runs : List Run) (row : List Rgb) (before : Option Rgb) (x y at : ℕ) (bucket : List Ink) (mark : Spot) (bitmap : List Rgba)
      → Covers runs row → x + length row ≡ side → at ≡ x % side → ((k : ℕ) → k < length row → IsBytes (get_or row k black)) → IsSquare side bitmap → y < side → Agrees before bucket
      → RowDrawn (row_commands before runs) (last_pixel before runs) row x y at bucket mark bitmap
  row_drawn [] row before x y at bucket mark bitmap covers whole is small square in_y agrees = row_ended before row x y at bucket mark bitmap covers whole is square agrees
  row_drawn (run ∷ runs) row before x y at bucket mark bitmap covers whole is small square in_y agrees =
      let some = covers.0 in
      let fits = covers.1 in
      let stop : ℕ = x + run.len in
      let rest : List Rgb = drop run.len row in
      let left : length rest ≡ length row - run.len = length-drop run.len row in
      let inside : x < side = omega arith in
      let in_x : stop ≤ side = omega arith in
      let here : at ≡ x = is ∙ mod-eq_of_lt inside in
      let pixel_small : IsBytes run.pixel = subst IsBytes (covers.2 0 (omega arith)) (small 0 (omega arith)) in
      let painted : List Rgba = with_span side bitmap y x stop (opaque run.pixel) in
      let painted_square : IsSquare side painted = IsSquare-with_span side bitmap y x stop (opaque run.pixel) square in_y (omega arith) in_x in
      let one = run_drawn before run x y stop bucket mark bitmap square some refl in_x in_y pixel_small agrees in
      let rest_at : (k : ℕ) → get_or rest k black ≡ get_or row (run.len + k) black = λ k. get_or-drop run.len row k black in
      let further = row_drawn runs rest (Some run.pixel) stop y (stop % side) one.filled (spot x y) painted covers.3 (omega arith) refl
      (λ k below. subst IsBytes (sym (rest_at k)) (small (run.len + k) (omega arith))) painted_square in_y one.colour in
      record {
        filled = further.filled;
        aim = further.aim;
        now = further.now;
        agrees = further.agrees;
        square = further.square;
        builds = builds_append side most table (run_commands before run) (row_commands (Some run.pixel) runs)
            (canvas_of bucket (spot at y) mark bitmap) (canvas_of one.filled (spot (stop % side) y) (spot x y) painted) (canvas_of further.filled (spot 0 ((y + 1) % side)) further.aim further.now)
            (subst (λ n. Builds side most table (run_commands before run) (canvas_of bucket (spot n y) mark bitmap) (canvas_of one.filled (spot (stop % side) y) (spot x y) painted)) (sym here) one.builds)
            further.builds;
        pixels = row_pixels run row x y stop bitmap further.now refl in_x in_y square covers.2 further.west further.pixels;
        west = row_west run x y stop bitmap further.now in_x in_y square some refl further.west;
        others = row_others run x y stop bitmap further.now in_x in_y square (omega arith) further.others;
      }

  module _ (picture : List Rgb) (filled : side * side ≤ length picture) (small : (place : ℕ) → IsBytes (get_or picture place black)) where
    -- the rows from one on
    record RowsDrawn (commands : List (List Base)) (y n at : ℕ) (bucket : List Ink) (mark : Spot) (bitmap : List Rgba) : Type 0 where
      built : Picture
      builds : Builds side most table commands (canvas_of bucket (spot 0 at) mark bitmap) built
      pixels : (u v : ℕ) → u < side → y ≤ v → v < y + n → pixel_at side (top_of built.layers) u v ≡ opaque (get_or picture (v * side + u) black)
      north : (u v : ℕ) → u < side → v < y → pixel_at side (top_of built.layers) u v ≡ pixel_at side bitmap u v

    one_row : (before : Option Rgb) (y : ℕ) (bucket : List Ink) (mark : Spot) (bitmap : List Rgba) → y < side → IsSquare side bitmap → Agrees before bucket
        → RowDrawn (row_commands before (runs_of (row_at side picture y))) (last_pixel before (runs_of (row_at side picture y))) (row_at side picture y) 0 y 0 bucket mark bitmap
    one_row before y bucket mark bitmap in_y square agrees =
        let row : List Rgb = row_at side picture y in
        let below : (y + 1) * side ≤ side * side = mul-le-mul_right side (omega arith) in
        let long : length row ≡ side = length-row_at side picture y (omega arith) in
        let first : 0 < side = omega arith in
        row_drawn (runs_of row) row before 0 y 0 bucket mark bitmap (covers row) (omega arith) (sym (mod-eq_of_lt first))
        (λ k within. subst IsBytes (sym (row_at-pixel side picture y k (omega arith))) (small (y * side + k)))
        square in_y agrees

    rows_drawn : (n y : ℕ) (before : Option Rgb) (at : ℕ) (bucket : List Ink) (mark : Spot) (bitmap : List Rgba) → y + n ≤ side → (y < side → at ≡ y) → IsSquare side bitmap → Agrees before bucket
        → RowsDrawn (commands_of before (runs_from side picture y n)) y n at bucket mark bitmap
    unfolding runs_from
    rows_drawn zero y before at bucket mark bitmap within is square agrees = record {
      built = canvas_of bucket (spot 0 at) mark bitmap;
      builds = refl;
      pixels = λ u v in_x from to. absurd (omega arith);
      north = λ u v in_x above. refl;
    }
    rows_drawn (suc n) y before at bucket mark bitmap within is square agrees =
        let in_y : y < side = omega arith in
        let row : List Rgb = row_at side picture y in
        let runs : List Run = runs_of row in
        let below : (y + 1) * side ≤ side * side = mul-le-mul_right side (omega arith) in
        let long : length row ≡ side = length-row_at side picture y (omega arith) in
        let one = one_row before y bucket mark bitmap in_y square agrees in
        let next : ℕ = (y + 1) % side in
        let further = rows_drawn n (y + 1) (last_pixel before runs) next one.filled one.aim one.now (omega arith) (λ more. mod-eq_of_lt more) one.square one.agrees in
        record {
          built = further.built;
          builds = builds_append side most table (row_commands before runs) (commands_of (last_pixel before runs) (runs_from side picture (y + 1) n))
              (canvas_of bucket (spot 0 at) mark bitmap) (canvas_of one.filled (spot 0 next) one.aim one.now) further.built
              (subst (λ k. Builds side most table (row_commands before runs) (canvas_of bucket (spot 0 k) mark bitmap) (canvas_of one.filled (spot 0 next) one.aim one.now)) (sym (is in_y)) one.builds)
              further.builds;
          pixels =
              λ u v in_x from to. elim (cases_lt y v) [
                | inl later ↦ further.pixels u v in_x (omega arith) (omega arith)
                | inr here ↦
                    let same : v ≡ y = omega arith in
                    let column : u ≡ 0 + u = omega arith in
                    further.north u v in_x (omega arith)
                    ∙ ap (λ k. pixel_at side one.now u k) same
                    ∙ ap (λ k. pixel_at side one.now k y) column
                    ∙ one.pixels u (omega arith)
                    ∙ ap opaque (row_at-pixel side picture y u in_x)
                    ∙ ap (λ k. opaque (get_or picture (k * side + u) black)) (sym same)
              ];
          north = λ u v in_x above. further.north u v in_x (omega arith) ∙ one.others u v in_x (λ same. omega arith);
        }

    -- all of them, from the start on
    pub picture_drawn : 1 ≤ side → side ≤ 1024
        → (built : Picture) × (
        Builds side most table (commands_of None (runs_from side picture 0 side)) (start side) built
        × ((u v : ℕ) → u < side → v < side → pixel_at side (top_of built.layers) u v ≡ opaque (get_or picture (v * side + u) black))
        )
    picture_drawn some few =
        let square : IsSquare side (blank side) = record { nonempty = some; small = few; filled = length-replicate (side * side) transparent } in
        let all = rows_drawn side 0 None 0 [] (spot 0 0) (blank side) (omega arith) (λ more. refl) square tt in
        (all.built, (all.builds, λ u v in_x in_y. all.pixels u v in_x (omega arith) (omega arith)))
