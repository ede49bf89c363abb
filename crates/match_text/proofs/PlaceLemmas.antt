-- Places that the first items lead through, on a DNA and on what it holds from a place on.
use Rattle.std.proofs.Common.{◌≡◌, ℕ, ◌+◌, ◌-◌, ◌<◌, ◌≤◌, Some, List, [], ◌∷◌, ◌++◌, length, take, drop, get_or, arith, ap, sym, ◌∙◌, subst, length-drop, drop-cons}
use Rattle.std.specs.Prelude.{slice_get, slice_range}
use Rattle.std.proofs.lemmas.Grind.{take_at_read}
use Rattle.std.proofs.lemmas.List.{length_push, length-take-le, get_or-drop, get_or-take}
use Rattle.std.proofs.lemmas.Option.{slice_get_within, get_or_from_slice_get}
use Rattle.fuun_base.specs.declared.letters.Base.{Base}
use Rattle.dna_items.specs.declared.items.PatItem.{PatItem}
use Rattle.matcher.specs.Match.{Meets, LeadThrough, last_place}
use Rattle.matcher.specs.Step.{MeetsNowhere, LeadNowhere, LeadsOver}
use Rattle.matcher.proofs.Places.{meets_rise, through-append, last-append, last_place-index}
use Rattle.matcher.proofs.Shifts.{meets_shift, meets_back}
use Rattle.match_text.specs.Told.{LeadSoFar}

-- one item that leads to a place
one_through : (d : List Base) (item : PatItem) (at count place : ℕ) (places : List ℕ) → count ≡ 1 → LeadThrough d (take count (item ∷ [])) at places → last_place (at ∷ places) ≡ place → Meets d item at place
one_through d item at count place [] one through reached = absurd (subst (λ n. LeadThrough d (take n (item ∷ [])) at []) one through)
one_through d item at count place (j ∷ []) one through reached =
    subst (Meets d item at) reached (subst (λ n. LeadThrough d (take n (item ∷ [])) at (j ∷ [])) one through).0
one_through d item at count place (j ∷ k ∷ places) one through reached =
    absurd (subst (λ n. LeadThrough d (take n (item ∷ [])) at (j ∷ k ∷ places)) one through).1

pub one_leads : (d : List Base) (item : PatItem) (at count place : ℕ) → LeadsOver d (item ∷ []) at count place → Meets d item at place
one_leads d item at count place over = one_through d item at count place over.places (omega (arith, over.some, over.within)) over.through over.reached

-- and one that leads nowhere
pub one_stuck : (d : List Base) (item : PatItem) (at : ℕ) → LeadNowhere d (item ∷ []) at → MeetsNowhere d item at
one_stuck d item at none j meets = none (j ∷ []) (meets, tt)

-- how far the items have led from a place
pub record Going (dna : List Base) (from : ℕ) (items : List PatItem) (places : List ℕ) (at : ℕ) : Type 0 where
  pub within : length places ≤ length items
  pub start : from ≤ length dna
  pub through : LeadThrough (drop from dna) (take (length places) items) 0 places
  pub here : at ≡ from + last_place (0 ∷ places)
  pub high : at ≤ length dna

pub going_begins : (dna : List Base) (from : ℕ) (items : List PatItem) → from ≤ length dna → Going dna from items [] from
going_begins dna from items start = record { within = omega arith; start = start; through = tt; here = omega arith; high = start }

pub going_more : (dna : List Base) (from : ℕ) (items : List PatItem) (places : List ℕ) (at : ℕ) (item : PatItem) (place : ℕ) → Going dna from items places at
    → slice_get items (length places) ≡ Some item → Meets dna item at place → Going dna from items (places ++ (place - from) ∷ []) place
going_more dna from items places at item place going there meets =
    let inside : length places < length items = slice_get_within items (length places) item there in
    let rise : (at ≤ place) × (place ≤ length dna) = meets_rise dna item at place meets going.high in
    let back : at - from ≡ last_place (0 ∷ places) = omega (arith, going.here) in
    let moved : Meets (drop from dna) item (last_place (0 ∷ places)) (place - from) =
    subst (λ n. Meets (drop from dna) item n (place - from)) back (meets_shift dna item from at place (omega (arith, going.here)) going.high meets) in
    let grown : take (length places + 1) items ≡ take (length places) items ++ item ∷ [] =
    (take_at_read items (length places) item inside).1 ∙ ap (λ x. take (length places) items ++ x ∷ []) (get_or_from_slice_get items (length places) item item there) in
    let on : LeadThrough (drop from dna) (take (length places) items ++ item ∷ []) 0 (places ++ (place - from) ∷ []) =
    through-append (drop from dna) (take (length places) items) (item ∷ []) 0 places ((place - from) ∷ []) going.through (moved, tt) in
    let long : length (places ++ (place - from) ∷ []) ≡ length places + 1 = length_push places (place - from) in
    let last : last_place (0 ∷ (places ++ (place - from) ∷ [])) ≡ place - from = last-append 0 places ((place - from) ∷ []) in
    record {
      within = omega (arith, long);
      start = going.start;
      through = subst (λ n. LeadThrough (drop from dna) (take n items) 0 (places ++ (place - from) ∷ [])) (sym long) (subst (λ xs. LeadThrough (drop from dna) xs 0 (places ++ (place - from) ∷ [])) (sym grown) on);
      here = omega (arith, last, going.here, rise.0);
      high = rise.1;
    }

pub going_stuck : (dna : List Base) (from : ℕ) (items : List PatItem) (places : List ℕ) (at : ℕ) → Going dna from items places at
    → ((item : PatItem) → slice_get items (length places) ≡ Some item → MeetsNowhere dna item at) → LeadSoFar (drop from dna) items places
going_stuck dna from items places at going none = record {
  within = going.within;
  through = going.through;
  stuck = λ item there j meets.
      none item there (from + j) (subst (λ n. Meets dna item n (from + j)) (sym going.here) (meets_back dna item from (last_place (0 ∷ places)) j going.start meets));
}

pub going_ends : (dna : List Base) (from : ℕ) (items : List PatItem) (places : List ℕ) (at : ℕ) → Going dna from items places at
    → length items ≤ length places → LeadSoFar (drop from dna) items places
going_ends dna from items places at going most = record {
  within = going.within;
  through = going.through;
  stuck = λ item there j meets. let inside : length places < length items = slice_get_within items (length places) item there in omega arith;
}

-- the last of a place and further ones, as it is read
pub last_is : (at : ℕ) (xs : List ℕ) → 0 < length xs → get_or xs (length xs - 1) 0 ≡ last_place (at ∷ xs)
last_is at [] some = absurd (omega (arith, some))
last_is at (x ∷ xs) some =
    let before : length (x ∷ xs) - 1 ≡ length xs = omega arith in
    ap (λ k. get_or (x ∷ xs) k 0) before ∙ sym (last_place-index x xs)

pub last_taken : (places : List ℕ) (next at n : ℕ) → 0 < n → n ≤ length places - next → get_or places (next + n - 1) 0 ≡ last_place (at ∷ take n (drop next places))
last_taken places next at n some within =
    let taken = take n (drop next places) in
    let long : length taken ≡ n = length-take-le n (drop next places) (omega (arith, within, length-drop next places)) in
    let sum : next + (n - 1) ≡ next + n - 1 = omega (arith, some) in
    ap (λ k. get_or places k 0) (sym sum) ∙ sym (get_or-drop next places (n - 1) 0) ∙ sym (get_or-take n (drop next places) (n - 1) 0 (omega (arith, some)))
    ∙ ap (λ k. get_or taken (k - 1) 0) (sym long) ∙ last_is at taken (omega (arith, long, some))

-- one item of several
pub one_item : (items : List PatItem) (index : ℕ) (item : PatItem) → slice_get items index ≡ Some item → slice_range items index (index + 1) ≡ item ∷ []
one_item items index item there =
    let inside : index < length items = slice_get_within items index item there in
    let one : index + 1 - index ≡ 1 = omega arith in
    ap (λ k. take k (drop index items)) one ∙ ap (take 1) (drop-cons items index item inside) ∙ ap (λ x. x ∷ []) (get_or_from_slice_get items index item item there)
