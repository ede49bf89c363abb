-- How a fill goes on and ends.
use Rattle.std.proofs.Common.{◌≡◌, ◌≢◌, ℕ, zero, suc, ◌+◌, ◌-◌, ◌<◌, ◌≤◌, ◌⊎◌, inl, inr, List, [], ◌∷◌, refl, sym, subst, ap, ◌∙◌, arith}
use Rattle.std.proofs.lemmas.Bool.{cases_eq, cases_lt}
use Rattle.canvas.specs.declared.pixel.Spot.{Spot}
use Rattle.canvas.specs.Pixels.{Rgba, IsInside, IsSquare, pixel_at, with_span}
use Rattle.canvas.proofs.PixelLemmas.{pixel_at-with_span, pixel_at-with_span_other}
use Rattle.canvas.proofs.SpotLemmas.{same_spot}
use Rattle.flood.specs.declared.span.Span.{Span}
use Rattle.flood.specs.Region.{pixel_of, DifferByOne, AreNeighbours, IsInRegion, IsFill}
use Rattle.flood.specs.Spans.{IsSpanOf}
use Rattle.flood.specs.Filling.{Covers, IsListed, IsRun, IsSet, IsPartOfFill, AreAdjacent, Continues, IsClearIn}
use Rattle.flood.proofs.Regions.{in_region, region_alike, region_here, region_more}

-- a span has a spot or not
cases_covers : (span : Span) (s : Spot) → Covers span s ⊎ ¬ Covers span s
cases_covers span s =
    elim (cases_eq s.y span.y) [
      | inr n ↦ inr (λ c. n c.0)
      | inl y ↦ elim (cases_lt s.x span.start) [
        | inl west ↦ inr (λ c. omega (arith, c.1, west))
        | inr from ↦ elim (cases_lt s.x span.stop) [
          | inl to ↦ inl (y, from, to)
          | inr east ↦ inr (λ c. omega (arith, c.2, east))
        ]
      ]
    ]

-- a span that was set
module _ (side : ℕ) (now : List Rgba) (run : Span) (pixel : Rgba) (square : IsSquare side now) (is : IsSpanOf side run) where
  pub set_in : (s : Spot) → Covers run s → pixel_of side (with_span side now run.y run.start run.stop pixel) s ≡ pixel
  set_in s covers =
      let P : ℕ → Type 0 = λ y. pixel_at side (with_span side now run.y run.start run.stop pixel) s.x y ≡ pixel in
      subst P (sym covers.0) (pixel_at-with_span side now run.y run.start run.stop s.x pixel square is.row covers.1 covers.2 is.inside)

  pub set_out : (s : Spot) → IsInside side s → ¬ Covers run s → pixel_of side (with_span side now run.y run.start run.stop pixel) s ≡ pixel_of side now s
  set_out s inside other = pixel_at-with_span_other side now run.y run.start run.stop s.x s.y pixel square is.row (omega (arith, is.nonempty)) is.inside inside.0 (λ y from to. other (y, from, to))

-- a run that was set
module _ (side : ℕ) (from to : Rgba) (differ : from ≢ to) (now : List Rgba) (square : IsSquare side now) (seed : Spot) (run : Span) (is_run : IsRun side now from seed run) (now' : List Rgba) (set : now' ≡ with_span side now run.y run.start run.stop to) where
  pub run_in : (s : Spot) → Covers run s → pixel_of side now' s ≡ to
  run_in s covers = rw set (set_in side now run to square is_run.is_span s covers)

  run_out : (s : Spot) → IsInside side s → ¬ Covers run s → pixel_of side now' s ≡ pixel_of side now s
  run_out s inside other = rw set (set_out side now run to square is_run.is_span s inside other)

  pub run_fewer : (s : Spot) → IsInside side s → pixel_of side now' s ≡ from → pixel_of side now s ≡ from
  run_fewer s inside e =
      elim (cases_covers run s) [
        | inl covers ↦ is_run.alike s covers
        | inr other ↦ sym (run_out s inside other) ∙ e
      ]

  module _ (was : List Rgba) (spot : Spot) (is_from : pixel_of side was spot ≡ from) (spans : List Span) (part : IsPartOfFill side was spot to now spans) where
    pub unset_alike : (s : Spot) → IsInside side s → pixel_of side now s ≡ from → pixel_of side was s ≡ from
    unset_alike s inside e =
        elim (part.kept s inside) [
          | inl same ↦ sym same ∙ e
          | inr done ↦ absurd (differ (sym e ∙ done.set))
        ]

    covers_inside : (s : Spot) → Covers run s → IsInside side s
    covers_inside s covers = (omega (arith, covers.2, is_run.is_span.inside), omega (arith, covers.0, is_run.is_span.row))

    to_here : (s t : Spot) → IsInRegion side was spot s → AreNeighbours s t → Covers run t → IsInRegion side was spot t
    to_here s t region near covers =
        let inside = covers_inside t covers in
        region_more side was spot s t region near inside (unset_alike t inside (is_run.alike t covers) ∙ sym is_from)

    to_east : (n : ℕ) (s : Spot) → IsInRegion side was spot seed → s.y ≡ run.y → s.x ≡ seed.x + n → s.x < run.stop → IsInRegion side was spot s
    to_east zero s region y x to =
        let P : Spot → Type 0 = λ q. IsInRegion side was spot q in
        subst P (same_spot seed s (omega arith) (is_run.covers.0 ∙ sym y)) region
    to_east (suc k) s region y x to =
        let before : Spot = record { x = seed.x + k; y = run.y } in
        let near : AreNeighbours before s = inr (sym y, inl (omega arith)) in
        to_here before s (to_east k before region refl refl (omega arith)) near (y, omega (arith, is_run.covers.1), to)

    to_west : (n : ℕ) (s : Spot) → IsInRegion side was spot seed → s.y ≡ run.y → s.x + n ≡ seed.x → run.start ≤ s.x → IsInRegion side was spot s
    to_west zero s region y x from =
        let P : Spot → Type 0 = λ q. IsInRegion side was spot q in
        subst P (same_spot seed s (omega arith) (is_run.covers.0 ∙ sym y)) region
    to_west (suc k) s region y x from =
        let before : Spot = record { x = s.x + 1; y = run.y } in
        let near : AreNeighbours before s = inr (sym y, inr refl) in
        to_here before s (to_west k before region refl (omega arith) (omega arith)) near (y, from, omega (arith, is_run.covers.2))

    run_region : IsInRegion side was spot seed → (s : Spot) → Covers run s → IsInRegion side was spot s
    run_region region s covers =
        elim (cases_lt s.x seed.x) [
          | inl west ↦ to_west (seed.x - s.x) s region covers.0 (omega arith) covers.1
          | inr east ↦ to_east (s.x - seed.x) s region covers.0 (omega arith) covers.2
        ]

    set_more : (s : Spot) → IsSet side was spot to now s → IsSet side was spot to now' s
    set_more s done = record {
      inside = done.inside;
      region = done.region;
      set =
          elim (cases_covers run s) [
            | inl covers ↦ run_in s covers
            | inr other ↦ run_out s done.inside other ∙ done.set
          ];
    }

    set_before : (s : Spot) → IsSet side was spot to now' s → Covers run s ⊎ IsSet side was spot to now s
    set_before s done =
        elim (cases_covers run s) [
          | inl covers ↦ inl covers
          | inr other ↦ inr (record { inside = done.inside; region = done.region; set = sym (run_out s done.inside other) ∙ done.set })
        ]

    -- a neighbour in the row of a spot of the run is of the run or holds another pixel
    run_rows : (s t : Spot) → Covers run s → IsInside side t → s.y ≡ t.y → DifferByOne s.x t.x → pixel_of side now' t ≡ from → ⊥
    run_rows s t covers inside y one e =
        let row : t.y ≡ run.y = sym y ∙ covers.0 in
        elim (cases_covers run t) [
          | inl within ↦ differ (sym e ∙ run_in t within)
          | inr other ↦
              let still : pixel_of side now t ≡ from = run_fewer t inside e in
              elim (cases_lt t.x run.start) [
                | inl west ↦ is_run.west t row (omega (arith, covers.1, one)) still
                | inr start ↦
                    elim (cases_lt t.x run.stop) [
                      | inl stop ↦ other (row, start, stop)
                      | inr east ↦ is_run.east t row (omega (arith, covers.2, one)) (omega (arith, inside.0, covers.2, one)) still
                    ]
              ]
        ]

    pub part_more : IsInRegion side was spot seed → IsPartOfFill side was spot to now' (run ∷ spans)
    part_more region = record {
      kept =
          λ s inside. elim (cases_covers run s) [
            | inl covers ↦ inr (record { inside = inside; region = run_region region s covers; set = run_in s covers })
            | inr other ↦
                elim (part.kept s inside) [
                  | inl same ↦ inl (run_out s inside other ∙ same)
                  | inr done ↦ inr (set_more s done)
                ]
          ];
      rows =
          λ s t done inside y one e. elim (set_before s done) [
            | inl covers ↦ run_rows s t covers inside y one (e ∙ is_from)
            | inr before ↦ part.rows s t before inside y one (run_fewer t inside (e ∙ is_from) ∙ sym is_from)
          ];
      columns =
          λ s t done inside x one e. elim (set_before s done) [
            | inl covers ↦ inl covers
            | inr before ↦ inr (part.columns s t before inside x one (run_fewer t inside (e ∙ is_from) ∙ sym is_from))
          ];
      listed =
          λ s listed. elim listed [
            | inl covers ↦ record { inside = covers_inside s covers; region = run_region region s covers; set = run_in s covers }
            | inr before ↦ set_more s (part.listed s before)
          ];
    }

-- two listed spans in the other order
part_swapped : (side : ℕ) (was : List Rgba) (spot : Spot) (to : Rgba) (now : List Rgba) (a b : Span) (spans : List Span) → IsPartOfFill side was spot to now (a ∷ b ∷ spans) → IsPartOfFill side was spot to now (b ∷ a ∷ spans)
part_swapped side was spot to now a b spans part =
    let turn : (u v : Span) (s : Spot) → IsListed (u ∷ v ∷ spans) s → IsListed (v ∷ u ∷ spans) s = λ u v s listed. elim listed [
      | inl first ↦ inr (inl first)
      | inr more ↦ elim more [ inl second ↦ inl second | inr rest ↦ inr (inr rest) ]
    ] in
    record {
      kept = part.kept;
      rows = part.rows;
      columns = λ s t done inside x one e. turn a b s (part.columns s t done inside x one e);
      listed = λ s listed. part.listed s (turn b a s listed);
    }

-- a span whose neighbours to the north and south are done is listed no more
part_done : (side : ℕ) (was : List Rgba) (spot : Spot) (from to : Rgba) (now : List Rgba) (span : Span) (spans : List Span) (above below : ℕ) → (0 < span.y → above + 1 ≡ span.y) → below ≡ span.y + 1 → pixel_of side was spot ≡ from → IsClearIn side now from span above → IsClearIn side now from span below
    → IsPartOfFill side was spot to now (span ∷ spans) → IsPartOfFill side was spot to now spans
part_done side was spot from to now span spans above below is_above is_below is_from north south part = record {
  kept = part.kept;
  rows = part.rows;
  columns =
      λ s t done inside x one e. elim (part.columns s t done inside x one e) [
        | inl covers ↦
            elim one [
              | inl next ↦ absurd (south s t covers inside x (omega (arith, covers.0, next, is_below)) (e ∙ is_from))
              | inr next ↦ absurd (north s t covers inside x (let row : t.y + 1 ≡ span.y = omega (arith, covers.0, next) in omega (arith, row, is_above (omega (arith, row)))) (e ∙ is_from))
            ]
        | inr rest ↦ rest
      ];
  listed = λ s listed. part.listed s (inr listed);
}

-- before a fill nothing is set
part_none : (side : ℕ) (was : List Rgba) (spot : Spot) (from to : Rgba) → pixel_of side was spot ≡ from → from ≢ to → IsPartOfFill side was spot to was []
part_none side was spot from to is_from differ =
    let no : (s : Spot) → IsSet side was spot to was s → ⊥ = λ s done. differ (sym is_from ∙ (sym (region_alike side was spot s done.region) ∙ done.set)) in
    record {
      kept = λ s inside. inl refl;
      rows = λ s t done inside y one e. no s done;
      columns = λ s t done inside x one e. absurd (no s done);
      listed = λ s listed. absurd listed;
    }

-- a fill with nothing left is a fill
part_all : (side : ℕ) (was : List Rgba) (spot : Spot) (to : Rgba) (now : List Rgba) → IsInside side spot → IsSquare side now → (pixel_of side now spot ≢ pixel_of side was spot) → IsPartOfFill side was spot to now [] → IsFill side was spot to now
part_all side was spot to now inside square changed part =
    let begun : IsSet side was spot to now spot = elim (part.kept spot inside) [ inl same ↦ absurd (changed same) | inr done ↦ done ] in
    let step : (s t : Spot) → IsSet side was spot to now s → AreNeighbours s t → IsInside side t → pixel_of side was t ≡ pixel_of side was spot → IsSet side was spot to now t = λ s t done near inside_t alike.
    elim (part.kept t inside_t) [
      | inr more ↦ more
      | inl same ↦
          elim near [
            | inl column ↦ absurd (part.columns s t done inside_t column.0 column.1 (same ∙ alike))
            | inr row ↦ absurd (part.rows s t done inside_t row.0 row.1 (same ∙ alike))
          ]
    ] in
    record {
      square = square;
      region = λ s region. (in_region side was spot (λ q. IsSet side was spot to now q) begun step s region).set;
      others = λ s inside_s other. elim (part.kept s inside_s) [ inl same ↦ same | inr done ↦ absurd (other done.region) ];
    }

-- nothing changes where the pixel of the spot is the new one
pub fill_none : (side : ℕ) (was now : List Rgba) (spot : Spot) (from to : Rgba) → IsSquare side was → from ≡ pixel_of side was spot → from ≡ to → now ≡ was → IsFill side was spot to now
fill_none side was now spot from to square is_from same unchanged =
    let P : List Rgba → Type 0 = λ pixels. IsFill side was spot to pixels in
    let fill : IsFill side was spot to was = record { square = square; region = λ s region. region_alike side was spot s region ∙ (sym is_from ∙ same); others = λ s inside other. refl } in
    subst P (sym unchanged) fill

pub Continues-trans : (side : ℕ) (from to : Rgba) (a b c : List Rgba) (u v w : List Span) → Continues side from to a u b v → Continues side from to b v c w → Continues side from to a u c w
Continues-trans side from to a b c u v w first second = record {
  fewer = λ s inside e. first.fewer s inside (second.fewer s inside e);
  part = λ was spot is_from part. second.part was spot is_from (first.part was spot is_from part);
}

-- a run beside a listed span was set
pub Continues-run : (side : ℕ) (from to : Rgba) (now now' : List Rgba) (spans spans' : List Span) (held part run : Span) (seed : Spot) → from ≢ to → IsSquare side now → AreAdjacent held part → IsSpanOf side part → Covers part seed
    → IsRun side now from seed run → now' ≡ with_span side now run.y run.start run.stop to → spans' ≡ run ∷ spans → Continues side from to now (held ∷ spans) now' (held ∷ spans')
Continues-run side from to now now' spans spans' held part run seed differ square adjacent is_part covers is_run set listed = record {
  fewer = run_fewer side from to differ now square seed run is_run now' set;
  part =
      λ was spot is_from filled.
      let beside : Spot = record { x = seed.x; y = held.y } in
      let done = filled.listed beside (inl (refl, omega (arith, adjacent.start, covers.1), omega (arith, adjacent.stop, covers.2))) in
      let inside : IsInside side seed = (omega (arith, covers.2, is_part.inside), omega (arith, covers.0, is_part.row)) in
      let one : DifferByOne held.y seed.y = let P : ℕ → Type 0 = λ y. DifferByOne held.y y in subst P (sym covers.0) adjacent.rows in
      let alike = unset_alike side from to differ now square seed run is_run now' set was spot is_from (held ∷ spans) filled seed inside (is_run.alike seed is_run.covers) in
      let region = region_more side was spot beside seed done.region (inl (refl, one)) inside (alike ∙ sym is_from) in
      let more = part_more side from to differ now square seed run is_run now' set was spot is_from (held ∷ spans) filled region in
      let P : List Span → Type 0 = λ list. IsPartOfFill side was spot to now' (held ∷ list) in
      subst P (sym listed) (part_swapped side was spot to now' run held spans more);
}

-- both rows of a span are done
pub Continues-done : (side : ℕ) (from to : Rgba) (a b c : List Rgba) (u v w : List Span) (span : Span) (above below : ℕ) → Continues side from to a (span ∷ u) b (span ∷ v) → Continues side from to b (span ∷ v) c (span ∷ w)
    → (0 < span.y → above + 1 ≡ span.y) → below ≡ span.y + 1 → IsClearIn side b from span above → IsClearIn side c from span below → Continues side from to a (span ∷ u) c w
Continues-done side from to a b c u v w span above below first second is_above is_below north south =
    let both = Continues-trans side from to a b c (span ∷ u) (span ∷ v) (span ∷ w) first second in
    let still : IsClearIn side c from span above = λ s t covers inside x row e. north s t covers inside x row (second.fewer t inside e) in
    record {
      fewer = both.fewer;
      part = λ was spot is_from part. part_done side was spot from to c span w above below is_above is_below is_from still south (both.part was spot is_from part);
    }

-- the first run, and all that follows from it
pub fill_all : (side : ℕ) (was now end : List Rgba) (spot : Spot) (from to : Rgba) (run : Span) (spans none : List Span) → IsInside side spot → from ≡ pixel_of side was spot → from ≢ to → IsSquare side was → IsSquare side end
    → IsRun side was from spot run → now ≡ with_span side was run.y run.start run.stop to → none ≡ [] → spans ≡ run ∷ none → Continues side from to now spans end [] → IsFill side was spot to end
fill_all side was now end spot from to run spans none inside is_from differ square square' is_run set empty listed goes_on =
    let begun = part_none side was spot from to (sym is_from) differ in
    let first = part_more side from to differ was square spot run is_run now set was spot (sym is_from) [] begun (region_here side was spot inside) in
    let P : List Span → Type 0 = λ list. IsPartOfFill side was spot to now list in
    let all : spans ≡ run ∷ [] = listed ∙ ap (λ list. run ∷ list) empty in
    let end_part = goes_on.part was spot (sym is_from) (subst P (sym all) first) in
    let changed : pixel_of side end spot ≢ pixel_of side was spot = λ e.
    let here : pixel_of side now spot ≡ from = goes_on.fewer spot inside (e ∙ sym is_from) in
    differ (sym here ∙ run_in side from to differ was square spot run is_run now set spot is_run.covers) in
    part_all side was spot to end inside square' changed end_part
