-- Runs of a row.
use Rattle.std.proofs.Common.{◌≡◌, ◌≢◌, ℕ, ◌+◌, ◌-◌, ◌*◌, ◌<◌, ◌≤◌, inl, inr, List, [], ◌∷◌, refl, sym, subst, ap, ◌∙◌, arith, get_or, length}
use Rattle.std.proofs.lemmas.Bool.{cases_lt}
use Rattle.canvas.specs.declared.pixel.Spot.{Spot}
use Rattle.canvas.specs.Pixels.{Rgba, IsInside, IsSquare, pixel_at, row_of, transparent, with_span}
use Rattle.canvas.proofs.PixelLemmas.{row_of-pixel}
use Rattle.flood.specs.declared.span.Span.{Span}
use Rattle.flood.specs.Region.{pixel_of}
use Rattle.flood.specs.Spans.{IsSpanOf}
use Rattle.flood.specs.Filling.{Covers, IsRun, count_of, work_left}
use Rattle.flood.proofs.Counts.{count_of-le-length, count_of-with_span}
use Rattle.flood.proofs.Parts.{run_fewer, run_in}

-- a row of a bitmap, read by its places
pub row_at : (side : ℕ) (pixels row : List Rgba) (y : ℕ) → row ≡ row_of side pixels y → (s : Spot) → s.x < side → s.y ≡ y → get_or row s.x transparent ≡ pixel_of side pixels s
row_at side pixels row y is_row s in_x in_row =
    let P : ℕ → Type 0 = λ v. get_or row s.x transparent ≡ pixel_at side pixels s.x v in
    subst P (sym in_row) (ap (λ r. get_or r s.x transparent) is_row ∙ row_of-pixel side pixels s.x y in_x)

-- the run round a spot, from its ends in the spot's row
pub run_from_ends : (side : ℕ) (pixels row : List Rgba) (spot : Spot) (pixel : Rgba) (start stop : ℕ) → IsInside side spot → pixel_of side pixels spot ≡ pixel → row ≡ row_of side pixels spot.y → length row ≡ side → start ≤ spot.x
    → ((k : ℕ) → start ≤ k → k < spot.x → get_or row k transparent ≡ pixel) → (0 < start → get_or row (start - 1) transparent ≢ pixel) → (spot.x ≤ stop) × (stop ≤ length row) → ((k : ℕ) → spot.x ≤ k → k < stop → get_or row k transparent ≡ pixel)
    → (stop < length row → get_or row stop transparent ≢ pixel) → IsRun side pixels pixel spot (record { y = spot.y; start = start; stop = stop })
run_from_ends side pixels row spot pixel start stop inside here is_row long from to_west west to to_east east =
    let at : (s : Spot) → s.x < side → s.y ≡ spot.y → get_or row s.x transparent ≡ pixel_of side pixels s = row_at side pixels row spot.y is_row in
    let after : spot.x < stop = elim (cases_lt spot.x stop) [
      | inl within ↦ within
      | inr past ↦
          let ends : stop ≡ spot.x = omega arith in
          absurd (east (omega (arith, inside.0)) (ap (λ k. get_or row k transparent) ends ∙ (at spot inside.0 refl ∙ here)))
    ] in
    record {
      is_span = record { row = inside.1; nonempty = omega arith; inside = omega arith };
      covers = (refl, from, after);
      alike =
          λ s covers.
          let there = at s (omega (arith, covers.2, to.1)) covers.0 in
          elim (cases_lt s.x spot.x) [
            | inl before ↦ sym there ∙ to_west s.x covers.1 before
            | inr behind ↦ sym there ∙ to_east s.x behind covers.2
          ];
      west =
          λ s y x e.
          let there = at s (omega (arith, inside.0)) y in
          let is : start - 1 ≡ s.x = omega arith in
          west (omega arith) (ap (λ k. get_or row k transparent) is ∙ (there ∙ e));
      east =
          λ s y x room e.
          let there = at s (omega arith) y in
          east (omega arith) (ap (λ k. get_or row k transparent) (sym x) ∙ (there ∙ e));
    }

-- where a run was set less is left
pub run_left : (side : ℕ) (pixels now : List Rgba) (from to : Rgba) (spot : Spot) (run : Span) → from ≢ to → IsSquare side pixels → IsRun side pixels from spot run → now ≡ with_span side pixels run.y run.start run.stop to → count_of from now + 1 ≤ count_of from pixels
run_left side pixels now from to spot run differ square is set =
    let first : Spot = record { x = run.start; y = run.y } in
    let nonempty : run.start < run.stop = is.is_span.nonempty in
    let here = is.alike first (refl, omega arith, nonempty) in
    rw set (count_of-with_span side pixels from to run differ square is.is_span here)

pub list_longer : (from : Rgba) (now was : List Rgba) (spans spans' : List Span) (run : Span) → count_of from now + 1 ≤ count_of from was → spans' ≡ run ∷ spans → work_left from now spans' ≤ work_left from was spans
list_longer from now was spans spans' run less listed = rw listed (omega arith)

-- before a fill there is room for all that is left
pub room_first : (side : ℕ) (from : Rgba) (pixels : List Rgba) (spans : List Span) → IsSquare side pixels → spans ≡ [] → work_left from pixels spans ≤ side * side
room_first side from pixels spans square none = rw none (omega (arith, count_of-le-length from pixels, square.filled))

-- a row is clear as far as it was looked through
pub clear_more : (side : ℕ) (from to : Rgba) (now now' row : List Rgba) (part run : Span) (x next : ℕ) → from ≢ to → IsSquare side now → IsSpanOf side part → IsRun side now from (record { x = x; y = part.y }) run → now' ≡ with_span side now run.y run.start run.stop to
    → ((s : Spot) → Covers part s → s.x < x → pixel_of side now s ≢ from) → row ≡ row_of side now' part.y → ((k : ℕ) → run.stop ≤ k → k < next → get_or row k transparent ≢ from) → (s : Spot) → Covers part s → s.x < next → pixel_of side now' s ≢ from
clear_more side from to now now' row part run x next differ square is_part is_run set before is_row passed s covers within e =
    let seed : Spot = record { x = x; y = part.y } in
    let in_x : s.x < side = omega (arith, covers.2, is_part.inside) in
    let in_y : s.y < side = omega (arith, covers.0, is_part.row) in
    elim (cases_lt s.x x) [
      | inl west ↦ before s covers west (run_fewer side from to differ now square seed run is_run now' set s (in_x, in_y) e)
      | inr east ↦
          elim (cases_lt s.x run.stop) [
            | inl in_run ↦ differ (sym e ∙ run_in side from to differ now square seed run is_run now' set s (covers.0 ∙ is_run.covers.0, omega (arith, is_run.covers.1), in_run))
            | inr behind ↦ passed s.x behind within (row_at side now' row part.y is_row s in_x covers.0 ∙ e)
          ]
    ]
