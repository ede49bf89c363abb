-- How far a match has come.
use Rattle.std.proofs.Common.{◌≡◌, ℕ, ◌+◌, ◌-◌, ◌<◌, ◌≤◌, inl, inr, Some, List, [], ◌∷◌, ◌++◌, zero, suc, length, take, drop, map, get_or, arith, refl, ap, sym, ◌∙◌, subst, length-append, length-drop}
use Rattle.std.specs.Prelude.{slice_get, slice_range, All, option_map}
use Rattle.std.proofs.Math.Seq.{take-add}
use Rattle.std.proofs.lemmas.Bool.{cases_lt}
use Rattle.std.proofs.lemmas.List.{take-append-drop, take-take, take_all, length-take-le, get_or_append_left, get_or_push, same_from_push, length_push, append-nil, length-map, drop_more, take_rest}
use Rattle.std.proofs.lemmas.List.Elements.{All-append, All-nil}
use Rattle.std.proofs.lemmas.Option.{slice_get_within, get_or_from_slice_get, slice_get-map, slice_get-get_or}
use Rattle.fuun_base.specs.declared.letters.Base.{Base}
use Rattle.dna_items.specs.declared.items.PatItem.{PatItem}
use Rattle.dna_items.specs.declared.items.PatItem.TheVariants.{Base as Literal, Skip, Search, GroupStart, GroupStop}
use Rattle.dna_items.specs.Balance.{start_of, stop_of, starts, stops, IsBalanced}
use Rattle.dna_items.proofs.Balances.{starts-append, stops-append, starts_more, stops_more}
use Rattle.matcher.specs.Match.{LeadThrough, last_place, HasNoMatch}
use Rattle.matcher.specs.Groups.{IsPartner, IsGroup}
use Rattle.matcher.specs.Found.{MatchesAt, moved, LiesWithin}
use Rattle.matcher.specs.Step.{LeadNowhere, LeadsOver, Marked}
use Rattle.matcher.proofs.Places.{Parts, through_parts, through_same, through_length, through_rise, through-append, last-append, last_place-index}
use Rattle.matcher.proofs.Shifts.{back, through_shift, through_back, index-back, last-back}
use Rattle.matcher.proofs.OpenGroups.{IsOpen, AreOpen, open_on, open_start, open_stop, partner_of, balanced_plain, stops_of_front}

-- the items before the k-th lead from a place to another
pub record Walked (d : List Base) (items : List PatItem) (place k at : ℕ) (visited : List ℕ) : Type 0 where
  pub within : place ≤ length d
  pub most : k ≤ length items
  pub leads : LeadThrough d (take k items) place visited
  pub ends : last_place (place ∷ visited) ≡ at

-- the places of open groups, innermost last, by their starts, innermost first
abbrev pub places_of : List ℕ → List ℕ → List ℕ
places_of places [] = []
places_of places (start ∷ starts) = places_of places starts ++ get_or places start 0 ∷ []

-- the open groups and the ended ones behind the first k items
pub record Grouped (items : List PatItem) (k : ℕ) (places held : List ℕ) (ended : List (ℕ × ℕ)) : Type 0 where
  pub inner : List ℕ
  pub are : AreOpen items inner k
  pub held_is : held ≡ places_of places inner
  pub depth : length inner + stops (take k items) ≡ starts (take k items)
  pub number : length ended ≡ stops (take k items)
  pub each : (stop : ℕ) → stop < k → slice_get items stop ≡ Some GroupStop → IsGroup items places ended stop

-- a range between two places
abbrev pub Lies : ℕ → ℕ → ℕ × ℕ → Type 0
Lies low high range = (low ≤ range.0) × (range.0 ≤ range.1) × (range.1 ≤ high)

-- where the open groups begin and the ended ones lie
pub record Bounded (low at high : ℕ) (held : List ℕ) (ended : List (ℕ × ℕ)) : Type 0 where
  pub held_in : All (λ p. (low ≤ p) × (p ≤ at)) held
  pub ended_in : All (Lies low high) ended

-- the match has come to the k-th item
pub record Reached (d : List Base) (items : List PatItem) (place k at : ℕ) (held : List ℕ) (ended : List (ℕ × ℕ)) : Type 0 where
  pub visited : List ℕ
  pub walked : Walked d items place k at visited
  pub grouped : Grouped items k (place ∷ visited) held ended
  pub bounded : Bounded place at (length d) held ended

pub reached_begins : (d : List Base) (items : List PatItem) (place : ℕ) → place ≤ length d → Reached d items place 0 place [] []
reached_begins d items place h = record {
  visited = [];
  walked = record { within = h; most = omega arith; leads = tt; ends = refl };
  grouped = record { inner = []; are = tt; held_is = refl; depth = refl; number = refl; each = λ stop lt is. absurd (omega arith) };
  bounded = record { held_in = All-nil (λ p. (place ≤ p) × (p ≤ place)); ended_in = All-nil (Lies place (length d)) };
}

walked_length : (d : List Base) (items : List PatItem) (place k at : ℕ) (visited : List ℕ) → Walked d items place k at visited → length (place ∷ visited) ≡ k + 1
walked_length d items place k at visited h =
    omega (arith, through_length d (take k items) place visited h.leads, length-take-le k items h.most)

walked_more : (d : List Base) (items : List PatItem) (place k at at' n : ℕ) (visited more : List ℕ) → Walked d items place k at visited → k + n ≤ length items → LeadThrough d (take n (drop k items)) at more → last_place (at ∷ more) ≡ at' → Walked d items place (k + n) at' (visited ++ more)
walked_more d items place k at at' n visited more h within through ends = record {
  within = h.within;
  most = within;
  leads =
      subst (λ xs. LeadThrough d xs place (visited ++ more)) (sym (take-add k n items))
      (through-append d (take k items) (take n (drop k items)) place visited more h.leads
      (subst (λ i. LeadThrough d (take n (drop k items)) i more) (sym h.ends) through));
  ends = last-append place visited more ∙ ap (λ i. last_place (i ∷ more)) h.ends ∙ ends;
}

slice_get-append : {X : Type 0} (xs ys : List X) (n : ℕ) (v : X) → slice_get xs n ≡ Some v → slice_get (xs ++ ys) n ≡ Some v
slice_get-append xs ys n v h =
    let within : n < length xs = slice_get_within xs n v h in
    slice_get-get_or (xs ++ ys) n v (omega (arith, length-append xs ys))
    ∙ ap Some (get_or_append_left xs ys v n within ∙ get_or_from_slice_get xs n v v h)

group_more : (items : List PatItem) (places more : List ℕ) (ended added : List (ℕ × ℕ)) (stop : ℕ) → stop < length places → IsGroup items places ended stop → IsGroup items (places ++ more) (ended ++ added) stop
group_more items places more ended added stop within h =
    let start : ℕ = h.0 in
    let partner : IsPartner items start stop = h.1 in
    let a : get_or (places ++ more) start 0 ≡ get_or places start 0 = get_or_append_left places more 0 start (omega (arith, partner.before)) in
    let b : get_or (places ++ more) stop 0 ≡ get_or places stop 0 = get_or_append_left places more 0 stop within in
    (start, partner, rw a (rw b (slice_get-append ended added (stops (take stop items)) (get_or places start 0, get_or places stop 0) h.2)))

places_of-append : (items : List PatItem) (places more ss : List ℕ) (k : ℕ) → AreOpen items ss k → k ≤ length places → places_of (places ++ more) ss ≡ places_of places ss
places_of-append items places more [] k h within = refl
places_of-append items places more (s ∷ ss) k h within =
    let one : IsOpen items s k = h.0 in
    let here : get_or (places ++ more) s 0 ≡ get_or places s 0 = get_or_append_left places more 0 s (omega (arith, one.before)) in
    let rest : places_of (places ++ more) ss ≡ places_of places ss = places_of-append items places more ss s h.1 (omega (arith, one.before)) in
    rw here (rw rest refl)

pub length-places_of : (places ss : List ℕ) → length (places_of places ss) ≡ length ss
length-places_of places [] = refl
length-places_of places (s ∷ ss) = omega (arith, length_push (places_of places ss) (get_or places s 0), length-places_of places ss)

stops_rise : (items : List PatItem) (m n : ℕ) → m ≤ n → stops (take m items) ≤ stops (take n items)
stops_rise items m n h = subst (λ xs. stops xs ≤ stops (take n items)) (take-take m n items h) (stops_of_front (take n items) m)

stops_next : (items : List PatItem) (k : ℕ) (item : PatItem) → slice_get items k ≡ Some item → stops (take (k + 1) items) ≡ stops (take k items) + stop_of item
stops_next items k item is =
    stops_more items k item (slice_get_within items k item is) ∙ ap (λ x. stops (take k items) + stop_of x) (get_or_from_slice_get items k item item is)

starts_next : (items : List PatItem) (k : ℕ) (item : PatItem) → slice_get items k ≡ Some item → starts (take (k + 1) items) ≡ starts (take k items) + start_of item
starts_next items k item is =
    starts_more items k item (slice_get_within items k item is) ∙ ap (λ x. starts (take k items) + start_of x) (get_or_from_slice_get items k item item is)

-- where no group ends between two items, each end before the second stands before the first
ends_before : (items : List PatItem) (k n stop : ℕ) → stops (take n items) ≡ stops (take k items) → stop < n → slice_get items stop ≡ Some GroupStop → stop < k
ends_before items k n stop same lt is =
    elim (cases_lt stop k) as (λ _. stop < k) [
      | inl h ↦ h
      | inr h ↦ absurd (omega (arith, stops_next items stop GroupStop is, stops_rise items k stop h, stops_rise items (stop + 1) n (omega arith)))
    ]

grouped_plain : (items : List PatItem) (k n : ℕ) (places more held : List ℕ) (ended : List (ℕ × ℕ)) → Grouped items k places held ended → length places ≡ k + 1 → starts (take n (drop k items)) ≡ 0 → stops (take n (drop k items)) ≡ 0 → Grouped items (k + n) (places ++ more) held ended
grouped_plain items k n places more held ended h size no_starts no_stops =
    let whole : take (k + n) items ≡ take k items ++ take n (drop k items) = take-add k n items in
    let ups : starts (take (k + n) items) ≡ starts (take k items) = ap starts whole ∙ starts-append (take k items) (take n (drop k items)) ∙ omega arith in
    let downs : stops (take (k + n) items) ≡ stops (take k items) = ap stops whole ∙ stops-append (take k items) (take n (drop k items)) ∙ omega arith in
    let length_is : k + n - k ≡ n = omega arith in
    let plain : IsBalanced (slice_range items k (k + n)) = rw length_is (balanced_plain (take n (drop k items)) no_starts no_stops) in
    record {
      inner = h.inner;
      are = open_on items h.inner k (k + n) h.are (omega arith) plain;
      held_is = h.held_is ∙ sym (places_of-append items places more h.inner k h.are (omega arith));
      depth = omega (arith, h.depth);
      number = h.number ∙ sym downs;
      each = λ stop lt is.
          let before : stop < k = ends_before items k (k + n) stop downs lt is in
          subst (λ gs. IsGroup items (places ++ more) gs stop) (append-nil ended) (group_more items places more ended [] stop (omega arith) (h.each stop before is));
    }

grouped_start : (items : List PatItem) (k at : ℕ) (places more held : List ℕ) (ended : List (ℕ × ℕ)) → Grouped items k places held ended → length places ≡ k + 1 → get_or places k 0 ≡ at → slice_get items k ≡ Some GroupStart → Grouped items (k + 1) (places ++ more) (held ++ at ∷ []) ended
grouped_start items k at places more held ended h size here is =
    let ups : starts (take (k + 1) items) ≡ starts (take k items) + 1 = starts_next items k GroupStart is in
    let downs : stops (take (k + 1) items) ≡ stops (take k items) = stops_next items k GroupStart is ∙ omega arith in
    let top : get_or (places ++ more) k 0 ≡ at = get_or_append_left places more 0 k (omega arith) ∙ here in
    let rest : held ≡ places_of (places ++ more) h.inner = h.held_is ∙ sym (places_of-append items places more h.inner k h.are (omega arith)) in
    record {
      inner = k ∷ h.inner;
      are = open_start items h.inner k h.are is;
      held_is = ap (λ xs. xs ++ at ∷ []) rest ∙ ap (λ x. places_of (places ++ more) h.inner ++ x ∷ []) (sym top);
      depth = omega (arith, h.depth);
      number = h.number ∙ sym downs;
      each = λ stop lt is'.
          let before : stop < k = ends_before items k (k + 1) stop downs lt is' in
          subst (λ gs. IsGroup items (places ++ more) gs stop) (append-nil ended) (group_more items places more ended [] stop (omega arith) (h.each stop before is'));
    }

-- the groups with the one that ends at the k-th item
ended_each : (items : List PatItem) (k s at p : ℕ) (places more : List ℕ) (ended : List (ℕ × ℕ)) → length places ≡ k + 1 → get_or places k 0 ≡ at → get_or places s 0 ≡ p → length ended ≡ stops (take k items) → IsPartner items s k → ((stop : ℕ) → stop < k → slice_get items stop ≡ Some GroupStop → IsGroup items places ended stop) → (stop : ℕ) → stop < k + 1 → slice_get items stop ≡ Some GroupStop → IsGroup items (places ++ more) (ended ++ (p, at) ∷ []) stop
ended_each items k s at p places more ended size here from number partner each stop lt is =
    elim (cases_lt stop k) as (λ _. IsGroup items (places ++ more) (ended ++ (p, at) ∷ []) stop) [
      | inl h ↦ group_more items places more ended ((p, at) ∷ []) stop (omega arith) (each stop h is)
      | inr h ↦
          let e : k ≡ stop = omega arith in
          let a : get_or (places ++ more) s 0 ≡ p = get_or_append_left places more 0 s (omega (arith, partner.before)) ∙ from in
          let b : get_or (places ++ more) k 0 ≡ at = get_or_append_left places more 0 k (omega arith) ∙ here in
          let last : slice_get (ended ++ (p, at) ∷ []) (stops (take k items)) ≡ Some (p, at) =
          slice_get-get_or (ended ++ (p, at) ∷ []) (stops (take k items)) (p, at) (omega (arith, length_push ended (p, at)))
          ∙ ap Some (get_or_push ended (p, at) (p, at) (stops (take k items)) number) in
          let group : IsGroup items (places ++ more) (ended ++ (p, at) ∷ []) k = (s, partner, rw a (rw b last)) in
          subst (λ n. IsGroup items (places ++ more) (ended ++ (p, at) ∷ []) n) e group
    ]

stop_with : (items : List PatItem) (k at p : ℕ) (places more held held' inner : List ℕ) (ended : List (ℕ × ℕ)) → AreOpen items inner k → held ≡ places_of places inner → length inner + stops (take k items) ≡ starts (take k items) → length ended ≡ stops (take k items) → ((stop : ℕ) → stop < k → slice_get items stop ≡ Some GroupStop → IsGroup items places ended stop) → length places ≡ k + 1 → get_or places k 0 ≡ at → slice_get items k ≡ Some GroupStop → held ≡ held' ++ p ∷ [] → Grouped items (k + 1) (places ++ more) held' (ended ++ (p, at) ∷ [])
stop_with items k at p places more held held' [] ended are held_is depth number each size here is popped =
    absurd (omega (arith, length_push held' p, ap length (sym popped ∙ held_is)))
stop_with items k at p places more held held' (s ∷ ss) ended are held_is depth number each size here is popped =
    let ups : starts (take (k + 1) items) ≡ starts (take k items) = starts_next items k GroupStop is ∙ omega arith in
    let downs : stops (take (k + 1) items) ≡ stops (take k items) + 1 = stops_next items k GroupStop is in
    let both : (held' ≡ places_of places ss) × (p ≡ get_or places s 0) = same_from_push held' (places_of places ss) p (get_or places s 0) (sym popped ∙ held_is) in
    let one : IsOpen items s k = are.0 in
    record {
      inner = ss;
      are = open_stop items s ss k are is;
      held_is = both.0 ∙ sym (places_of-append items places more ss s are.1 (omega (arith, one.before)));
      depth = omega arith;
      number = omega (arith, length_push ended (p, at));
      each = ended_each items k s at p places more ended size here (sym both.1) number (partner_of items s k one is) each;
    }

grouped_stop : (items : List PatItem) (k at p : ℕ) (places more held held' : List ℕ) (ended : List (ℕ × ℕ)) → Grouped items k places held ended → length places ≡ k + 1 → get_or places k 0 ≡ at → slice_get items k ≡ Some GroupStop → held ≡ held' ++ p ∷ [] → Grouped items (k + 1) (places ++ more) held' (ended ++ (p, at) ∷ [])
grouped_stop items k at p places more held held' ended h size here is popped =
    stop_with items k at p places more held held' h.inner ended h.are h.held_is h.depth h.number h.each size here is popped

all_one : {X : Type 0} (P : X → Type 0) (x : X) → P x → All P (x ∷ [])
all_one P x h zero d lt = h
all_one P x h (suc k) d lt = absurd (omega arith)

all_front : {X : Type 0} (P : X → Type 0) (xs ys : List X) → All P (xs ++ ys) → All P xs
all_front P xs ys h = λ k d lt. subst P (get_or_append_left xs ys d k lt) (h k d (omega (arith, length-append xs ys)))

all_last : {X : Type 0} (P : X → Type 0) (xs : List X) (x : X) → All P (xs ++ x ∷ []) → P x
all_last P xs x h = subst P (get_or_push xs x x (length xs) refl) (h (length xs) x (omega (arith, length_push xs x)))

bounded_on : (low at at' high : ℕ) (held : List ℕ) (ended : List (ℕ × ℕ)) → Bounded low at high held ended → at ≤ at' → Bounded low at' high held ended
bounded_on low at at' high held ended h le = record {
  held_in = λ k d lt. ((h.held_in k d lt).0, omega (arith, h.held_in k d lt));
  ended_in = h.ended_in;
}

bounded_start : (low at high : ℕ) (held : List ℕ) (ended : List (ℕ × ℕ)) → Bounded low at high held ended → low ≤ at → Bounded low at high (held ++ at ∷ []) ended
bounded_start low at high held ended h le =
    let P : ℕ → Type 0 = λ p. (low ≤ p) × (p ≤ at) in
    record { held_in = All-append P held (at ∷ []) h.held_in (all_one P at (le, omega arith)); ended_in = h.ended_in }

bounded_stop : (low at high p : ℕ) (held held' : List ℕ) (ended : List (ℕ × ℕ)) → Bounded low at high held ended → at ≤ high → held ≡ held' ++ p ∷ [] → Bounded low at high held' (ended ++ (p, at) ∷ [])
bounded_stop low at high p held held' ended h le popped =
    let P : ℕ → Type 0 = λ q. (low ≤ q) × (q ≤ at) in
    let all : All P (held' ++ p ∷ []) = subst (All P) popped h.held_in in
    let last : (low ≤ p) × (p ≤ at) = all_last P held' p all in
    record {
      held_in = all_front P held' (p ∷ []) all;
      ended_in = All-append (Lies low high) ended ((p, at) ∷ []) h.ended_in (all_one (Lies low high) (p, at) (last.0, last.1, le));
    }

-- the items from the k-th on, where there is one
front_is : (items : List PatItem) (k : ℕ) (item : PatItem) → k < length items → get_or (drop k items) 0 item ≡ item → (slice_get items k ≡ Some item) × (drop k items ≡ item ∷ drop (k + 1) items)
front_is items k item within is =
    let more : drop k items ≡ get_or items k item ∷ drop (k + 1) items = drop_more items k item within in
    let first : get_or items k item ≡ item = ap (λ xs. get_or xs 0 item) (sym more) ∙ is in
    (slice_get-get_or items k item within ∙ ap Some first, more ∙ ap (λ x. x ∷ drop (k + 1) items) first)

-- a group start or a group end is passed by itself
lone : (d : List Base) (item : PatItem) (rest : List PatItem) (at count at' : ℕ) → 1 ≤ start_of item + stop_of item → LeadsOver d (item ∷ rest) at count at' → count ≡ 1
lone d item rest at zero at' mark h = absurd (omega (arith, h.some))
lone d item rest at (suc m) at' mark h = elim h.apart as (λ _. suc m ≡ 1) [ inl e ↦ e | inr e ↦ absurd (omega arith) ]

stays_start : (d : List Base) (at : ℕ) (ps : List ℕ) → LeadThrough d (GroupStart ∷ []) at ps → last_place (at ∷ ps) ≡ at
stays_start d at [] h = absurd h
stays_start d at (j ∷ []) h = h.0
stays_start d at (j ∷ k ∷ ps) h = absurd h.1

stays_stop : (d : List Base) (at : ℕ) (ps : List ℕ) → LeadThrough d (GroupStop ∷ []) at ps → last_place (at ∷ ps) ≡ at
stays_stop d at [] h = absurd h
stays_stop d at (j ∷ []) h = h.0
stays_stop d at (j ∷ k ∷ ps) h = absurd h.1

-- what is passed from an item that is neither has neither
plain_front : (d : List Base) (item : PatItem) (rest : List PatItem) (at count at' : ℕ) → start_of item + stop_of item ≡ 0 → LeadsOver d (item ∷ rest) at count at' → starts (take count (item ∷ rest)) + stops (take count (item ∷ rest)) ≡ 0
plain_front d item rest at count at' plain h =
    let P : ℕ → Type 0 = λ n. starts (take n (item ∷ rest)) + stops (take n (item ∷ rest)) ≡ 0 in
    elim h.apart as (λ _. P count) [
      | inl e ↦ let one : P 1 = omega arith in subst P (sym e) one
      | inr e ↦ e
    ]

here_is : (d : List Base) (items : List PatItem) (place k at : ℕ) (visited : List ℕ) → Walked d items place k at visited → get_or (place ∷ visited) k 0 ≡ at
here_is d items place k at visited h =
    let size : length visited ≡ k = omega (arith, walked_length d items place k at visited h) in
    ap (λ n. get_or (place ∷ visited) n 0) (sym size) ∙ sym (last_place-index place visited) ∙ h.ends

walked_bounds : (d : List Base) (items : List PatItem) (place k at : ℕ) (visited : List ℕ) → Walked d items place k at visited → (place ≤ at) × (at ≤ length d)
walked_bounds d items place k at visited h =
    let both : (place ≤ last_place (place ∷ visited)) × (last_place (place ∷ visited) ≤ length d) = through_rise d (take k items) place visited h.leads h.within in
    (omega (arith, both.0, h.ends), omega (arith, both.1, h.ends))

reached_plain : (d : List Base) (items : List PatItem) (item : PatItem) (place k at count at' : ℕ) (held held' : List ℕ) (ended ended' : List (ℕ × ℕ)) → Reached d items place k at held ended → start_of item + stop_of item ≡ 0 → k < length items → drop k items ≡ item ∷ drop (k + 1) items → LeadsOver d (drop k items) at count at' → held' ≡ held → ended' ≡ ended → Reached d items place (k + count) at' held' ended'
reached_plain d items item place k at count at' held held' ended ended' h plain inside is over a b =
    let rest : List PatItem = drop (k + 1) items in
    let sum : starts (take count (item ∷ rest)) + stops (take count (item ∷ rest)) ≡ 0 = plain_front d item rest at count at' plain (subst (λ xs. LeadsOver d xs at count at') is over) in
    let sum' : starts (take count (drop k items)) + stops (take count (drop k items)) ≡ 0 = subst (λ xs. starts (take count xs) + stops (take count xs) ≡ 0) (sym is) sum in
    let room : k + count ≤ length items = omega (arith, over.within, length-drop k items) in
    let walked : Walked d items place (k + count) at' (h.visited ++ over.places) = walked_more d items place k at at' count h.visited over.places h.walked room over.through over.reached in
    let bounds : (place ≤ at) × (at ≤ length d) = walked_bounds d items place k at h.visited h.walked in
    let rise : at ≤ at' = omega (arith, (through_rise d (take count (drop k items)) at over.places over.through bounds.1).0, over.reached) in
    let grouped : Grouped items (k + count) (place ∷ (h.visited ++ over.places)) held ended =
    grouped_plain items k count (place ∷ h.visited) over.places held ended h.grouped (walked_length d items place k at h.visited h.walked) (omega arith) (omega arith) in
    subst (λ xs. Reached d items place (k + count) at' xs ended') (sym a)
    (subst (λ gs. Reached d items place (k + count) at' held gs) (sym b)
    (record {
      visited = h.visited ++ over.places;
      walked = walked;
      grouped = grouped;
      bounded = bounded_on place at at' (length d) held ended h.bounded rise;
    }))

-- what is passed from a group start or a group end
record Lone (d : List Base) (items : List PatItem) (place k at count at' : ℕ) (visited : List ℕ) : Type 0 where
  pub one : count ≡ 1
  pub same : at' ≡ at
  pub more : List ℕ
  pub walked : Walked d items place (k + 1) at (visited ++ more)

lone_walk : (d : List Base) (items : List PatItem) (item : PatItem) (place k at count at' : ℕ) (visited : List ℕ) → Walked d items place k at visited → 1 ≤ start_of item + stop_of item → k < length items → drop k items ≡ item ∷ drop (k + 1) items → ((ps : List ℕ) → LeadThrough d (item ∷ []) at ps → last_place (at ∷ ps) ≡ at) → LeadsOver d (drop k items) at count at' → Lone d items place k at count at' visited
lone_walk d items item place k at count at' visited h mark inside is stays over =
    let rest : List PatItem = drop (k + 1) items in
    let one : count ≡ 1 = lone d item rest at count at' mark (subst (λ xs. LeadsOver d xs at count at') is over) in
    let front : take 1 (drop k items) ≡ item ∷ [] = ap (take 1) is in
    let through : LeadThrough d (take 1 (drop k items)) at over.places = subst (λ n. LeadThrough d (take n (drop k items)) at over.places) one over.through in
    let still : last_place (at ∷ over.places) ≡ at = stays over.places (subst (λ xs. LeadThrough d xs at over.places) front through) in
    record {
      one = one;
      same = sym over.reached ∙ still;
      more = over.places;
      walked = walked_more d items place k at at 1 visited over.places h (omega arith) through still;
    }

reached_start : (d : List Base) (items : List PatItem) (place k at count at' : ℕ) (held held' : List ℕ) (ended ended' : List (ℕ × ℕ)) → Reached d items place k at held ended → slice_get items k ≡ Some GroupStart → k < length items → drop k items ≡ GroupStart ∷ drop (k + 1) items → LeadsOver d (drop k items) at count at' → held' ≡ held ++ at ∷ [] → ended' ≡ ended → Reached d items place (k + count) at' held' ended'
reached_start d items place k at count at' held held' ended ended' h here inside is over a b =
    let lone_is : Lone d items place k at count at' h.visited = lone_walk d items GroupStart place k at count at' h.visited h.walked (omega arith) inside is (stays_start d at) over in
    let bounds : (place ≤ at) × (at ≤ length d) = walked_bounds d items place k at h.visited h.walked in
    let reached : Reached d items place (k + 1) at (held ++ at ∷ []) ended = record {
      visited = h.visited ++ lone_is.more;
      walked = lone_is.walked;
      grouped = grouped_start items k at (place ∷ h.visited) lone_is.more held ended h.grouped (walked_length d items place k at h.visited h.walked) (here_is d items place k at h.visited h.walked) here;
      bounded = bounded_start place at (length d) held ended h.bounded bounds.0;
    } in
    subst (λ n. Reached d items place (k + n) at' held' ended') (sym lone_is.one)
    (subst (λ n. Reached d items place (k + 1) n held' ended') (sym lone_is.same)
    (subst (λ xs. Reached d items place (k + 1) at xs ended') (sym a)
    (subst (λ gs. Reached d items place (k + 1) at (held ++ at ∷ []) gs) (sym b) reached)))

reached_stop : (d : List Base) (items : List PatItem) (place k at count at' p : ℕ) (held held' : List ℕ) (ended ended' : List (ℕ × ℕ)) → Reached d items place k at held ended → slice_get items k ≡ Some GroupStop → k < length items → drop k items ≡ GroupStop ∷ drop (k + 1) items → LeadsOver d (drop k items) at count at' → held ≡ held' ++ p ∷ [] → ended' ≡ ended ++ (p, at) ∷ [] → Reached d items place (k + count) at' held' ended'
reached_stop d items place k at count at' p held held' ended ended' h here inside is over popped b =
    let lone_is : Lone d items place k at count at' h.visited = lone_walk d items GroupStop place k at count at' h.visited h.walked (omega arith) inside is (stays_stop d at) over in
    let bounds : (place ≤ at) × (at ≤ length d) = walked_bounds d items place k at h.visited h.walked in
    let reached : Reached d items place (k + 1) at held' (ended ++ (p, at) ∷ []) = record {
      visited = h.visited ++ lone_is.more;
      walked = lone_is.walked;
      grouped = grouped_stop items k at p (place ∷ h.visited) lone_is.more held held' ended h.grouped (walked_length d items place k at h.visited h.walked) (here_is d items place k at h.visited h.walked) here popped;
      bounded = bounded_stop place at (length d) p held held' ended h.bounded bounds.1 popped;
    } in
    subst (λ n. Reached d items place (k + n) at' held' ended') (sym lone_is.one)
    (subst (λ n. Reached d items place (k + 1) n held' ended') (sym lone_is.same)
    (subst (λ gs. Reached d items place (k + 1) at held' gs) (sym b) reached))

reached_by : (d : List Base) (items : List PatItem) (item : PatItem) (place k at count at' : ℕ) (held held' : List ℕ) (ended ended' : List (ℕ × ℕ)) → Reached d items place k at held ended → k < length items → slice_get items k ≡ Some item → drop k items ≡ item ∷ drop (k + 1) items → LeadsOver d (drop k items) at count at' → Marked item at held ended held' ended' → Reached d items place (k + count) at' held' ended'
reached_by d items (Literal b) place k at count at' held held' ended ended' h inside here is over marks =
    reached_plain d items (Literal b) place k at count at' held held' ended ended' h refl inside is over marks.0 marks.1
reached_by d items (Skip n) place k at count at' held held' ended ended' h inside here is over marks =
    reached_plain d items (Skip n) place k at count at' held held' ended ended' h refl inside is over marks.0 marks.1
reached_by d items (Search s) place k at count at' held held' ended ended' h inside here is over marks =
    reached_plain d items (Search s) place k at count at' held held' ended ended' h refl inside is over marks.0 marks.1
reached_by d items GroupStart place k at count at' held held' ended ended' h inside here is over marks =
    reached_start d items place k at count at' held held' ended ended' h here inside is over marks.0 marks.1
reached_by d items GroupStop place k at count at' held held' ended ended' h inside here is over marks =
    reached_stop d items place k at count at' marks.0 held held' ended ended' h here inside is over marks.1 marks.2

pub reached_more : (d : List Base) (items : List PatItem) (item : PatItem) (place k at count at' : ℕ) (held held' : List ℕ) (ended ended' : List (ℕ × ℕ)) → Reached d items place k at held ended → k < length items → get_or (drop k items) 0 item ≡ item → LeadsOver d (drop k items) at count at' → Marked item at held ended held' ended' → Reached d items place (k + count) at' held' ended'
reached_more d items item place k at count at' held held' ended ended' h inside first over marks =
    let both : (slice_get items k ≡ Some item) × (drop k items ≡ item ∷ drop (k + 1) items) = front_is items k item inside first in
    reached_by d items item place k at count at' held held' ended ended' h inside both.0 both.1 over marks

pub reached_within : (d : List Base) (items : List PatItem) (place k at : ℕ) (held : List ℕ) (ended : List (ℕ × ℕ)) → Reached d items place k at held ended → (place ≤ at) × (at ≤ length d)
reached_within d items place k at held ended h = walked_bounds d items place k at h.visited h.walked

-- where balanced items come to a group end, a group is open
pub reached_open : (d : List Base) (items : List PatItem) (item : PatItem) (place k at : ℕ) (held : List ℕ) (ended : List (ℕ × ℕ)) → Reached d items place k at held ended → IsBalanced items → k < length items → get_or (drop k items) 0 item ≡ item → item ≡ GroupStop → 0 < length held
reached_open d items item place k at held ended h balanced inside first is =
    let both : (slice_get items k ≡ Some item) × (drop k items ≡ item ∷ drop (k + 1) items) = front_is items k item inside first in
    let here : slice_get items k ≡ Some GroupStop = both.0 ∙ ap Some is in
    let ups : starts (take (k + 1) items) ≡ starts (take k items) = starts_next items k GroupStop here ∙ omega arith in
    let downs : stops (take (k + 1) items) ≡ stops (take k items) + 1 = stops_next items k GroupStop here in
    let size : length held ≡ length h.grouped.inner = ap length h.grouped.held_is ∙ length-places_of (place ∷ h.visited) h.grouped.inner in
    omega (arith, h.grouped.depth, balanced.fronts (k + 1))

pub reached_nowhere : (d : List Base) (items : List PatItem) (place k at : ℕ) (held : List ℕ) (ended : List (ℕ × ℕ)) → Reached d items place k at held ended → LeadNowhere d (drop k items) at → HasNoMatch (drop place d) items
reached_nowhere d items place k at held ended h lacks [] match = match
reached_nowhere d items place k at held ended h lacks (i ∷ ps) match =
    let first : LeadThrough (drop place d) items 0 ps = subst (λ n. LeadThrough (drop place d) items n ps) match.0 match.1 in
    let moved_on : LeadThrough d items (place + 0) (map (λ n. place + n) ps) = through_back d items place 0 ps h.walked.within first in
    let from : place + 0 ≡ place = omega arith in
    let whole : LeadThrough d (take k items ++ drop k items) place (map (λ n. place + n) ps) =
    subst (λ xs. LeadThrough d xs place (map (λ n. place + n) ps)) (sym (take-append-drop k items))
    (subst (λ n. LeadThrough d items n (map (λ m. place + m) ps)) from moved_on) in
    let parts : Parts d (take k items) (drop k items) place = through_parts d (take k items) (drop k items) place (map (λ n. place + n) ps) whole in
    let same : parts.front ≡ h.visited = through_same d (take k items) place parts.front h.visited parts.first h.walked.leads in
    let last : last_place (place ∷ parts.front) ≡ at = ap (λ qs. last_place (place ∷ qs)) same ∙ h.walked.ends in
    lacks parts.back (subst (λ n. LeadThrough d (drop k items) n parts.back) last parts.second)

-- a range as it is counted from a place
abbrev pub back_range : ℕ → ℕ × ℕ → ℕ × ℕ
back_range place range = (back place range.0, back place range.1)

moves_back : (low high : ℕ) (ranges : List (ℕ × ℕ)) → All (Lies low high) ranges → ranges ≡ map (moved low) (map (back_range low) ranges)
moves_back low high [] h = refl
moves_back low high (r ∷ ranges) h =
    let here : Lies low high r = h 0 r (omega arith) in
    let rest : ranges ≡ map (moved low) (map (back_range low) ranges) = moves_back low high ranges (λ k d lt. h (suc k) d (omega arith)) in
    let a : r.0 ≡ low + (r.0 - low) = omega (arith, here.0) in
    let b : r.1 ≡ low + (r.1 - low) = omega (arith, here.0, here.1) in
    let e : r ≡ (low + (r.0 - low), low + (r.1 - low)) = ap (λ n. (n, r.1)) a ∙ ap (λ n. (low + (r.0 - low), n)) b in
    ap (λ x. x ∷ ranges) e ∙ ap (λ xs. (low + (r.0 - low), low + (r.1 - low)) ∷ xs) rest

group_back : (items : List PatItem) (places : List ℕ) (ended : List (ℕ × ℕ)) (place stop : ℕ) → IsGroup items places ended stop → IsGroup items (map (back place) places) (map (back_range place) ended) stop
group_back items places ended place stop h =
    let n : ℕ = stops (take stop items) in
    let at : slice_get (map (back_range place) ended) n ≡ Some (back_range place (get_or places h.0 0, get_or places stop 0)) =
    slice_get-map (back_range place) ended n ∙ ap (option_map (back_range place)) h.2 in
    (h.0, h.1, rw (index-back place places h.0) (rw (index-back place places stop) at))

pub reached_ends : (d : List Base) (items : List PatItem) (place at : ℕ) (held : List ℕ) (ended : List (ℕ × ℕ)) → Reached d items place (length items) at held ended → MatchesAt d place items at ended
reached_ends d items place at held ended h =
    let whole : take (length items) items ≡ items = take_all (length items) items (omega arith) in
    let bounds : (place ≤ at) × (at ≤ length d) = reached_within d items place (length items) at held ended h in
    let leads : LeadThrough d items place h.visited = subst (λ xs. LeadThrough d xs place h.visited) whole h.walked.leads in
    let last : last_place (map (back place) (place ∷ h.visited)) ≡ at - place = last-back place place h.visited ∙ ap (λ n. n - place) h.walked.ends in
    record {
      places = map (back place) (place ∷ h.visited);
      ranges = map (back_range place) ended;
      is = (omega arith, through_shift d items place place h.visited (omega arith) h.walked.within leads);
      stops = omega arith;
      grouped = record {
        number = length-map ended (back_range place) ∙ h.grouped.number ∙ ap stops whole;
        each = λ stop is. group_back items (place ∷ h.visited) ended place stop (h.grouped.each stop (slice_get_within items stop GroupStop is) is);
      };
      moves = moves_back place (length d) ended h.bounded.ended_in;
    }

pub reached_inside : (d : List Base) (items : List PatItem) (place k at : ℕ) (held : List ℕ) (ended : List (ℕ × ℕ)) → Reached d items place k at held ended → All (LiesWithin (length d)) ended
reached_inside d items place k at held ended h = λ n r lt. ((h.bounded.ended_in n r lt).1, (h.bounded.ended_in n r lt).2)

-- a slice from an item on
pub rest_is : (xs ys : List PatItem) (k : ℕ) → xs ≡ ys → take (length xs - k) (drop k xs) ≡ drop k ys
rest_is xs ys k same = take_rest xs k ∙ ap (drop k) same
