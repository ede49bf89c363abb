-- Items at the front that are passed in one step: one item, or bases.
use Rattle.std.proofs.Common.{◌≡◌, ℕ, ◌+◌, ◌<◌, ◌≤◌, inl, inr, Option, Some, None, List, [], ◌∷◌, ◌++◌, length, take, drop, map, set, get_or, arith, refl, ap, sym, ◌∙◌, subst}
use Rattle.std.specs.Prelude.{slice_get, slice_range, MatchOption}
use Rattle.std.proofs.lemmas.List.{take-append-drop, length-map, length-take-le, take_more, take_more_set, map_push}
use Rattle.std.proofs.lemmas.Option.{slice_get_within, slice_get-get_or}
use Rattle.fuun_base.specs.declared.letters.Base.{Base}
use Rattle.fuun_base.specs.Occurrence.{Stands}
use Rattle.dna_items.specs.declared.items.PatItem.{PatItem}
use Rattle.dna_items.specs.declared.items.PatItem.TheVariants.{Base as Literal}
use Rattle.dna_items.specs.Balance.{starts, stops}
use Rattle.matcher.specs.Match.{Meets, LeadThrough, last_place}
use Rattle.matcher.specs.Step.{MeetsNowhere, LeadNowhere, LeadsOver, Moves}
use Rattle.matcher.specs.declared.passing.Passed.{Passed}
use Rattle.matcher.proofs.Places.{Parts, through_parts}
use Rattle.matcher.proofs.Ranges.{range_join, range_none, range_one}

-- the places behind each of some bases
abbrev pub run_places : ℕ → List Base → List ℕ
run_places at [] = []
run_places at (b ∷ bs) = (at + 1) ∷ run_places (at + 1) bs

pub run_last : (bs : List Base) (at : ℕ) → last_place (at ∷ run_places at bs) ≡ at + length bs
run_last [] at = omega arith
run_last (b ∷ bs) at = run_last bs (at + 1) ∙ omega arith

pub stands_none : (d : List Base) (at : ℕ) → at ≤ length d → Stands [] d at
stands_none d at h =
    let e : at + 0 ≡ at = omega arith in
    record { within = omega arith; there = rw e (range_none d at) }

pub stands-cons : (b : Base) (bs d : List Base) (at : ℕ) → slice_get d at ≡ Some b → Stands bs d (at + 1) → Stands (b ∷ bs) d at
stands-cons b bs d at here rest =
    let e : at + length (b ∷ bs) ≡ at + 1 + length bs = omega arith in
    let two : slice_range d at (at + 1 + length bs) ≡ slice_range d at (at + 1) ++ slice_range d (at + 1) (at + 1 + length bs) = range_join d at (at + 1) (at + 1 + length bs) (omega arith) (omega arith) in
    record {
      within = omega (arith, rest.within);
      there = ap (slice_range d at) e ∙ two ∙ ap (λ f. f ++ slice_range d (at + 1) (at + 1 + length bs)) (range_one d at b here) ∙ ap (λ r. b ∷ r) rest.there;
    }

pub stands_first : (b : Base) (bs d : List Base) (at : ℕ) → Stands (b ∷ bs) d at → (slice_get d at ≡ Some b) × Stands bs d (at + 1)
stands_first b bs d at h =
    let within : at < length d = omega (arith, h.within) in
    let x : Base = get_or d at b in
    let here : slice_get d at ≡ Some x = slice_get-get_or d at b within in
    let e : at + length (b ∷ bs) ≡ at + 1 + length bs = omega arith in
    let two : slice_range d at (at + 1 + length bs) ≡ slice_range d at (at + 1) ++ slice_range d (at + 1) (at + 1 + length bs) = range_join d at (at + 1) (at + 1 + length bs) (omega arith) (omega arith) in
    let all : x ∷ slice_range d (at + 1) (at + 1 + length bs) ≡ b ∷ bs =
    ap (λ f. f ++ slice_range d (at + 1) (at + 1 + length bs)) (sym (range_one d at x here)) ∙ sym two ∙ ap (slice_range d at) (sym e) ∙ h.there in
    let first : x ≡ b = cc in
    let rest : slice_range d (at + 1) (at + 1 + length bs) ≡ bs = cc in
    (here ∙ ap Some first, record { within = omega (arith, h.within); there = rest })

pub run_leads : (bs d : List Base) (at : ℕ) → Stands bs d at → LeadThrough d (map Literal bs) at (run_places at bs)
run_leads [] d at h = tt
run_leads (b ∷ bs) d at h =
    let two : (slice_get d at ≡ Some b) × Stands bs d (at + 1) = stands_first b bs d at h in
    ((two.0, refl), run_leads bs d (at + 1) two.1)

pub run_stands : (bs d : List Base) (at : ℕ) (ps : List ℕ) → at ≤ length d → LeadThrough d (map Literal bs) at ps → Stands bs d at
run_stands [] d at ps within h = stands_none d at within
run_stands (b ∷ bs) d at [] within h = absurd h
run_stands (b ∷ bs) d at (j ∷ ps) within h =
    let here : slice_get d at ≡ Some b = h.0.0 in
    let inside : at < length d = slice_get_within d at b here in
    stands-cons b bs d at here (run_stands bs d (at + 1) ps (omega arith) (subst (λ n. LeadThrough d (map Literal bs) n ps) h.0.1 h.1))

pub run_plain : (bs : List Base) → starts (map Literal bs) + stops (map Literal bs) ≡ 0
run_plain [] = refl
run_plain (b ∷ bs) = omega (arith, run_plain bs)

pub nowhere_run : (d : List Base) (items : List PatItem) (at count : ℕ) (bs : List Base) → take count items ≡ map Literal bs → at ≤ length d → (Stands bs d at → ⊥) → LeadNowhere d items at
nowhere_run d items at count bs are within lacks = λ ps through.
    let whole : LeadThrough d (take count items ++ drop count items) at ps = subst (λ xs. LeadThrough d xs at ps) (sym (take-append-drop count items)) through in
    let parts : Parts d (take count items) (drop count items) at = through_parts d (take count items) (drop count items) at ps whole in
    lacks (run_stands bs d at parts.front within (subst (λ xs. LeadThrough d xs at parts.front) are parts.first))

pub run_length : (items : List PatItem) (run : List Base) (count : ℕ) → take count items ≡ map Literal (take count run) → count ≤ length items → length (take count run) ≡ count
run_length items run count are within = sym (length-map (take count run) Literal) ∙ ap length (sym are) ∙ length-take-le count items within

pub over_run : (d : List Base) (items : List PatItem) (at count : ℕ) (bs : List Base) → take count items ≡ map Literal bs → 0 < count → count ≤ length items → Stands bs d at → LeadsOver d items at count (at + count)
over_run d items at count bs are some within stands =
    let size : length bs ≡ count = sym (length-map bs Literal) ∙ ap length (sym are) ∙ length-take-le count items within in
    record {
      some = some;
      within = within;
      apart = inr (ap (λ xs. starts xs + stops xs) are ∙ run_plain bs);
      places = run_places at bs;
      through = subst (λ xs. LeadThrough d xs at (run_places at bs)) (sym are) (run_leads bs d at stands);
      reached = run_last bs at ∙ ap (λ n. at + n) size;
    }

pub nowhere_item : (d : List Base) (item : PatItem) (items : List PatItem) (at : ℕ) → MeetsNowhere d item at → LeadNowhere d (item ∷ items) at
nowhere_item d item items at lacks [] through = absurd through
nowhere_item d item items at lacks (j ∷ ps) through = lacks j through.0

pub over_item : (d : List Base) (item : PatItem) (items : List PatItem) (at j : ℕ) → Meets d item at j → LeadsOver d (item ∷ items) at 1 j
over_item d item items at j leads = record {
  some = omega arith;
  within = omega arith;
  apart = inl refl;
  places = j ∷ [];
  through = (leads, tt);
  reached = refl;
}

-- what passing some items makes known
abbrev pub Passes : List Base → List PatItem → ℕ → Option Passed → Type 0
Passes d items at passed = MatchOption passed (LeadNowhere d items at) (λ front. LeadsOver d items at front.count front.place)

-- the passing of one item to a place
abbrev pub one_passed : ℕ → Passed
one_passed place = record { count = 1; place = place }

passes_first : (d : List Base) (item : PatItem) (items : List PatItem) (at : ℕ) (moved : Option ℕ) (passed : Option Passed) → Moves d item at moved → MatchOption moved (passed ≡ None) (λ place. passed ≡ Some (one_passed place)) → Passes d (item ∷ items) at passed
passes_first d item items at None passed moves is = subst (Passes d (item ∷ items) at) (sym is) (nowhere_item d item items at moves)
passes_first d item items at (Some j) passed moves is = subst (Passes d (item ∷ items) at) (sym is) (over_item d item items at j moves)

pub passes_item : (d : List Base) (item : PatItem) (items : List PatItem) (at : ℕ) (moved : Option ℕ) (passed : Option Passed) → 0 < length items → get_or items 0 item ≡ item → Moves d item at moved → MatchOption moved (passed ≡ None) (λ place. passed ≡ Some (one_passed place)) → Passes d items at passed
passes_item d item [] at moved passed some first moves is = absurd (omega arith)
passes_item d item (x ∷ items) at moved passed some first moves is =
    subst (λ y. Passes d (y ∷ items) at passed) (sym first) (passes_first d item items at moved passed moves is)

-- one more base at the front of the items
pub literals_more : (items : List PatItem) (run : List Base) (count : ℕ) (item : PatItem) (base : Base) → take count items ≡ map Literal (take count run) → count < length items → count < length run → item ≡ get_or items count item → item ≡ Literal base → take (count + 1) items ≡ map Literal (take (count + 1) (set run count base))
literals_more items run count item base before within room here is =
    let more : take (count + 1) items ≡ take count items ++ get_or items count item ∷ [] = take_more items count item within in
    let written : take (count + 1) (set run count base) ≡ take count run ++ base ∷ [] = take_more_set run count base room in
    more
    ∙ ap (λ x. take count items ++ x ∷ []) (sym here ∙ is)
    ∙ ap (λ xs. xs ++ Literal base ∷ []) before
    ∙ sym (map_push Literal (take count run) base)
    ∙ ap (map Literal) (sym written)
