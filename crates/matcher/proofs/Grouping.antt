-- Balanced items have groups at every list of places.
use Rattle.std.proofs.Common.{◌≡◌, ℕ, zero, suc, ◌+◌, ◌-◌, ◌<◌, ◌≤◌, inl, inr, Some, List, [], ◌∷◌, ◌++◌, length, take, drop, arith, refl, sym, ap, subst, ◌∙◌}
use Rattle.std.specs.Prelude.{slice_get, slice_range, slice_index}
use Rattle.std.proofs.lemmas.Bool.{cases_lt, cases_eq}
use Rattle.std.proofs.lemmas.List.{take_more, take_all, take-take, length-take, length-append}
use Rattle.std.proofs.Math.Seq.{take-add}
use Rattle.std.proofs.lemmas.Option.{none-some, slice_get_within, slice_get_cases, get_or_from_slice_get}
use Rattle.dna_items.proofs.Balances.{starts-append, stops-append}
use Rattle.dna_items.specs.declared.items.PatItem.{PatItem}
use Rattle.dna_items.specs.declared.items.PatItem.TheVariants.{Base as Literal, Skip, Search, GroupStart, GroupStop}
use Rattle.dna_items.specs.Balance.{start_of, stop_of, starts, stops, IsBalanced}
use Rattle.matcher.specs.Groups.{IsPartner, IsGroup}
use Rattle.matcher.specs.Laws.{EachEndHasPartner, HasGroups}

-- how many starts and ends a front has

take_at : (items : List PatItem) (n : ℕ) (item : PatItem) → slice_get items n ≡ Some item → take (n + 1) items ≡ take n items ++ item ∷ []
take_at items n item is =
    take_more items n item (slice_get_within items n item is) ∙ ap (λ x. take n items ++ x ∷ []) (get_or_from_slice_get items n item item is)

starts_at : (items : List PatItem) (n : ℕ) (item : PatItem) → slice_get items n ≡ Some item → starts (take (n + 1) items) ≡ starts (take n items) + start_of item
starts_at items n item is = ap starts (take_at items n item is) ∙ starts-append (take n items) (item ∷ []) ∙ (let e : starts (take n items) + (start_of item + 0) ≡ starts (take n items) + start_of item = omega arith in e)

stops_at : (items : List PatItem) (n : ℕ) (item : PatItem) → slice_get items n ≡ Some item → stops (take (n + 1) items) ≡ stops (take n items) + stop_of item
stops_at items n item is = ap stops (take_at items n item is) ∙ stops-append (take n items) (item ∷ []) ∙ (let e : stops (take n items) + (stop_of item + 0) ≡ stops (take n items) + stop_of item = omega arith in e)

take_range : (items : List PatItem) (a b : ℕ) → a ≤ b → take b items ≡ take a items ++ slice_range items a b
take_range items a b order = let e : b ≡ a + (b - a) = omega arith in ap (λ n. take n items) e ∙ take-add a (b - a) items

starts_range : (items : List PatItem) (a b : ℕ) → a ≤ b → starts (take b items) ≡ starts (take a items) + starts (slice_range items a b)
starts_range items a b order = ap starts (take_range items a b order) ∙ starts-append (take a items) (slice_range items a b)

stops_range : (items : List PatItem) (a b : ℕ) → a ≤ b → stops (take b items) ≡ stops (take a items) + stops (slice_range items a b)
stops_range items a b order = ap stops (take_range items a b order) ∙ stops-append (take a items) (slice_range items a b)

-- at a place as many groups are open as at another, or more
pub record IsAbove (items : List PatItem) (low high : ℕ) : Type 0 where
  pub above : starts (take low items) + stops (take high items) ≤ stops (take low items) + starts (take high items)

front_of_range : (items : List PatItem) (a b n : ℕ) → n ≤ b - a → take n (slice_range items a b) ≡ slice_range items a (a + n)
front_of_range items a b n within =
    let e : a + n - a ≡ n = omega arith in take-take n (b - a) (drop a items) within ∙ sym (ap (λ m. take m (drop a items)) e)

range_of_all : (items : List PatItem) (a b n : ℕ) → b - a ≤ n → take n (slice_range items a b) ≡ slice_range items a b
range_of_all items a b n past = take_all n (slice_range items a b) (omega (arith, length-take (b - a) (drop a items)))

fronts_of_range : (items : List PatItem) (a b : ℕ) → a ≤ b → ((j : ℕ) → a ≤ j → j ≤ b → IsAbove items a j) → (n : ℕ) → stops (take n (slice_range items a b)) ≤ starts (take n (slice_range items a b))
fronts_of_range items a b order above n =
    elim (cases_lt (b - a) n) [
      | inl past ↦
          let h : IsAbove items a b = above b order (omega arith) in
          let h1 = h.above in
          let same : take n (slice_range items a b) ≡ slice_range items a b = range_of_all items a b n (omega arith) in
          rw same (omega (arith, h1, starts_range items a b order, stops_range items a b order))
      | inr within ↦
          let h : IsAbove items a (a + n) = above (a + n) (omega arith) (omega arith) in
          let h1 = h.above in
          let same : take n (slice_range items a b) ≡ slice_range items a (a + n) = front_of_range items a b n within in
          let grows : a ≤ a + n = omega arith in
          rw same (omega (arith, h1, starts_range items a (a + n) grows, stops_range items a (a + n) grows))
    ]

balanced_range : (items : List PatItem) (a b : ℕ) → a ≤ b → IsAbove items b a → ((j : ℕ) → a ≤ j → j ≤ b → IsAbove items a j) → IsBalanced (slice_range items a b)
balanced_range items a b order back above = record {
  even =
      let h : IsAbove items a b = above b order (omega arith) in
      let h1 = h.above in let h2 = back.above in
      omega (arith, h1, h2, starts_range items a b order, stops_range items a b order);
  fronts = fronts_of_range items a b order above;
}

-- there is a partner

pub record StartsAbove (items : List PatItem) (stop start : ℕ) : Type 0 where
  pub before : start < stop
  pub starts : slice_get items start ≡ Some GroupStart
  pub back : IsAbove items (start + 1) stop
  pub over : (j : ℕ) → start + 1 ≤ j → j ≤ stop → IsAbove items stop j

-- one place further back
start_is : (items : List PatItem) (stop k : ℕ) (item : PatItem) → k < stop → slice_get items k ≡ Some item → ((j : ℕ) → k + 1 ≤ j → j ≤ stop → IsAbove items stop j) → stops (take stop items) + starts (take k items) < starts (take stop items) + stops (take k items) → StartsAbove items stop k
start_is items stop k (Literal b) before is over below =
    let h : IsAbove items stop (k + 1) = over (k + 1) (omega arith) (omega arith) in
    absurd (omega (arith, h.above, starts_at items k (Literal b) is, stops_at items k (Literal b) is))
start_is items stop k (Skip n) before is over below =
    let h : IsAbove items stop (k + 1) = over (k + 1) (omega arith) (omega arith) in
    absurd (omega (arith, h.above, starts_at items k (Skip n) is, stops_at items k (Skip n) is))
start_is items stop k (Search s) before is over below =
    let h : IsAbove items stop (k + 1) = over (k + 1) (omega arith) (omega arith) in
    absurd (omega (arith, h.above, starts_at items k (Search s) is, stops_at items k (Search s) is))
start_is items stop k GroupStart before is over below = record {
  before = before;
  starts = is;
  back = record { above = omega (arith, starts_at items k GroupStart is, stops_at items k GroupStart is) };
  over = over;
}
start_is items stop k GroupStop before is over below =
    let h : IsAbove items stop (k + 1) = over (k + 1) (omega arith) (omega arith) in
    absurd (omega (arith, h.above, starts_at items k GroupStop is, stops_at items k GroupStop is))

past_is_same : (items : List PatItem) (k : ℕ) → length items ≤ k → take (k + 1) items ≡ take k items
past_is_same items k past = take_all (k + 1) items (omega arith) ∙ sym (take_all k items past)

start_here : (items : List PatItem) (stop k : ℕ) → k < stop → ((j : ℕ) → k + 1 ≤ j → j ≤ stop → IsAbove items stop j) → stops (take stop items) + starts (take k items) < starts (take stop items) + stops (take k items) → StartsAbove items stop k
start_here items stop k before over below =
    elim (slice_get_cases items k).1 [
      | inl found ↦ start_is items stop k found.0 before found.2 over below
      | inr past ↦
          let h : IsAbove items stop (k + 1) = over (k + 1) (omega arith) (omega arith) in
          let same : take (k + 1) items ≡ take k items = past_is_same items k past.0 in
          absurd (omega (arith, h.above, ap starts same, ap stops same))
    ]

over_more : (items : List PatItem) (stop k : ℕ) → IsAbove items stop k → ((j : ℕ) → k + 1 ≤ j → j ≤ stop → IsAbove items stop j) → (j : ℕ) → k ≤ j → j ≤ stop → IsAbove items stop j
over_more items stop k here over j low high =
    elim (cases_eq j k) [
      | inl same ↦ subst (λ n. IsAbove items stop n) (sym same) here
      | inr other ↦ over j (omega arith) high
    ]

find_start : (items : List PatItem) (stop k : ℕ) → k ≤ stop → ((j : ℕ) → k ≤ j → j ≤ stop → IsAbove items stop j) → stops (take stop items) < starts (take stop items) → (start : ℕ) × StartsAbove items stop start
find_start items stop zero within over opened =
    let h : IsAbove items stop 0 = over 0 (omega arith) (omega arith) in absurd (omega (arith, h.above))
find_start items stop (suc k) within over opened =
    elim (cases_lt (stops (take stop items) + starts (take k items)) (starts (take stop items) + stops (take k items))) [
      | inl below ↦ (k, start_here items stop k (omega arith) (λ j low high. over j (omega arith) high) below)
      | inr above ↦ find_start items stop k (omega arith) (over_more items stop k (record { above = above }) (λ j low high. over j (omega arith) high)) opened
    ]

above_self : (items : List PatItem) (stop : ℕ) → IsAbove items stop stop
above_self items stop = record { above = omega arith }

above_by : (items : List PatItem) (a b c : ℕ) → IsAbove items a b → IsAbove items b c → IsAbove items a c
above_by items a b c x y = let hx = x.above in let hy = y.above in record { above = omega arith }

partner_of : (items : List PatItem) (stop start : ℕ) → slice_get items stop ≡ Some GroupStop → StartsAbove items stop start → IsPartner items start stop
partner_of items stop start ends found =
    let before : start < stop = found.before in
    record {
      before = before;
      starts = found.starts;
      ends = ends;
      between = balanced_range items (start + 1) stop (omega arith) (found.over (start + 1) (omega arith) (omega arith)) (λ j low high. above_by items (start + 1) stop j found.back (found.over j low high));
    }

opened_at : (items : List PatItem) (stop : ℕ) → IsBalanced items → slice_get items stop ≡ Some GroupStop → stops (take stop items) < starts (take stop items)
opened_at items stop balanced ends =
    let h : stops (take (stop + 1) items) ≤ starts (take (stop + 1) items) = balanced.fronts (stop + 1) in
    omega (arith, h, starts_at items stop GroupStop ends, stops_at items stop GroupStop ends)

pub partner : EachEndHasPartner
partner items stop balanced ends =
    let found : (start : ℕ) × StartsAbove items stop start =
    find_start items stop stop (omega arith) (λ j low high. let same : stop ≡ j = omega arith in subst (λ n. IsAbove items stop n) same (above_self items stop)) (opened_at items stop balanced ends) in
    (found.0, partner_of items stop found.0 ends found.1)

-- there are groups

slice_get-append_left : {X : Type 0} (xs ys : List X) (n : ℕ) (x : X) → slice_get xs n ≡ Some x → slice_get (xs ++ ys) n ≡ Some x
slice_get-append_left [] ys n x is = absurd (none-some x is)
slice_get-append_left (y ∷ xs) ys zero x is = is
slice_get-append_left (y ∷ xs) ys (suc n) x is = slice_get-append_left xs ys n x is

slice_get-pushed : {X : Type 0} (xs : List X) (x : X) → slice_get (xs ++ x ∷ []) (length xs) ≡ Some x
slice_get-pushed [] x = refl
slice_get-pushed (y ∷ xs) x = slice_get-pushed xs x

-- the groups that end within a front of the items
record GroupsOfFront (items : List PatItem) (places : List ℕ) (n : ℕ) : Type 0 where
  groups : List (ℕ × ℕ)
  number : length groups ≡ stops (take n items)
  each : (stop : ℕ) → stop < n → slice_get items stop ≡ Some GroupStop → IsGroup items places groups stop

group_stays : (items : List PatItem) (places : List ℕ) (groups more : List (ℕ × ℕ)) (stop : ℕ) → IsGroup items places groups stop → IsGroup items places (groups ++ more) stop
group_stays items places groups more stop group =
    (group.0, group.1, slice_get-append_left groups more (stops (take stop items)) (slice_index places group.0, slice_index places stop) group.2)

no_more_groups : (items : List PatItem) (places : List ℕ) (n : ℕ) → GroupsOfFront items places n → stops (take (n + 1) items) ≡ stops (take n items) → (slice_get items n ≡ Some GroupStop → ⊥) → GroupsOfFront items places (n + 1)
no_more_groups items places n front same other = record {
  groups = front.groups;
  number = front.number ∙ sym same;
  each = λ stop before ends.
      elim (cases_eq stop n) [
        | inl here ↦ absurd (other (subst (λ m. slice_get items m ≡ Some GroupStop) here ends))
        | inr earlier ↦ front.each stop (omega arith) ends
      ];
}

group_here : (items : List PatItem) (places : List ℕ) (n : ℕ) (front : GroupsOfFront items places n) (start : ℕ) → IsPartner items start n → IsGroup items places (front.groups ++ (slice_index places start, slice_index places n) ∷ []) n
group_here items places n front start is =
    let range : ℕ × ℕ = (slice_index places start, slice_index places n) in
    (start, is, subst (λ m. slice_get (front.groups ++ range ∷ []) m ≡ Some range) front.number (slice_get-pushed front.groups range))

one_more_group : (items : List PatItem) (places : List ℕ) (n : ℕ) → IsBalanced items → GroupsOfFront items places n → slice_get items n ≡ Some GroupStop → GroupsOfFront items places (n + 1)
one_more_group items places n balanced front ends =
    let found : (start : ℕ) × IsPartner items start n = partner items n balanced ends in
    let range : ℕ × ℕ = (slice_index places found.0, slice_index places n) in
    record {
      groups = front.groups ++ range ∷ [];
      number = omega (arith, length-append front.groups (range ∷ []), front.number, stops_at items n GroupStop ends);
      each = λ stop before ends_here.
          elim (cases_eq stop n) [
            | inl here ↦ subst (λ m. IsGroup items places (front.groups ++ range ∷ []) m) (sym here) (group_here items places n front found.0 found.1)
            | inr earlier ↦ group_stays items places front.groups (range ∷ []) stop (front.each stop (omega arith) ends_here)
          ];
    }

groups_after : (items : List PatItem) (places : List ℕ) (n : ℕ) (item : PatItem) → IsBalanced items → GroupsOfFront items places n → slice_get items n ≡ Some item → GroupsOfFront items places (n + 1)
groups_after items places n (Literal b) balanced front is = no_more_groups items places n front (let e : stops (take (n + 1) items) ≡ stops (take n items) = omega (arith, stops_at items n (Literal b) is) in e) (λ e. cc)
groups_after items places n (Skip k) balanced front is = no_more_groups items places n front (let e : stops (take (n + 1) items) ≡ stops (take n items) = omega (arith, stops_at items n (Skip k) is) in e) (λ e. cc)
groups_after items places n (Search s) balanced front is = no_more_groups items places n front (let e : stops (take (n + 1) items) ≡ stops (take n items) = omega (arith, stops_at items n (Search s) is) in e) (λ e. cc)
groups_after items places n GroupStart balanced front is = no_more_groups items places n front (let e : stops (take (n + 1) items) ≡ stops (take n items) = omega (arith, stops_at items n GroupStart is) in e) (λ e. cc)
groups_after items places n GroupStop balanced front is = one_more_group items places n balanced front is

groups_of_front : (items : List PatItem) (places : List ℕ) (n : ℕ) → IsBalanced items → GroupsOfFront items places n
groups_of_front items places zero balanced = record { groups = []; number = refl; each = λ stop before ends. absurd (omega arith) }
groups_of_front items places (suc n) balanced =
    let before : GroupsOfFront items places n = groups_of_front items places n balanced in
    let more : n + 1 ≡ suc n = omega arith in
    subst (λ m. GroupsOfFront items places m) more (elim (slice_get_cases items n).1 [
      | inl found ↦ groups_after items places n found.0 balanced before found.2
      | inr past ↦ no_more_groups items places n before (ap stops (past_is_same items n past.0)) (λ ends. none-some GroupStop (sym past.1 ∙ ends))
    ])

pub groups_exist : HasGroups
groups_exist items places balanced =
    let all : GroupsOfFront items places (length items) = groups_of_front items places (length items) balanced in (
      all.groups,
      record {
        number = all.number ∙ ap stops (take_all (length items) items (omega arith));
        each = λ stop ends. all.each stop (slice_get_within items stop GroupStop ends) ends;
      },
    )
