-- Groups that are open or have ended behind the first items.
use Rattle.std.proofs.Common.{◌≡◌, ℕ, ◌+◌, ◌-◌, ◌<◌, ◌≤◌, inl, inr, Some, List, [], ◌∷◌, ◌++◌, zero, suc, length, take, drop, get_or, arith, refl, ap, sym, ◌∙◌, subst}
use Rattle.std.specs.Prelude.{slice_get, slice_range}
use Rattle.std.proofs.Math.Seq.{take-append-add, take-append_seam}
use Rattle.std.proofs.lemmas.Bool.{cases_lt}
use Rattle.std.proofs.lemmas.List.{take-append-drop, take-append-le, same_lists}
use Rattle.std.proofs.lemmas.Option.{get_or_from_slice_get}
use Rattle.dna_items.specs.declared.items.PatItem.{PatItem}
use Rattle.dna_items.specs.declared.items.PatItem.TheVariants.{Base as Literal, Skip, Search, GroupStart, GroupStop}
use Rattle.dna_items.specs.Balance.{starts, stops, IsBalanced}
use Rattle.dna_items.proofs.Balances.{starts-append, stops-append}
use Rattle.matcher.specs.Groups.{IsPartner, AreGroups, IsGroup}
use Rattle.matcher.proofs.Ranges.{range_join, range_none, range_one}

pub stops_most : (items : List PatItem) → stops items ≤ length items
stops_most [] = omega arith
stops_most (Literal b ∷ items) = omega (arith, stops_most items)
stops_most (Skip n ∷ items) = omega (arith, stops_most items)
stops_most (Search s ∷ items) = omega (arith, stops_most items)
stops_most (GroupStart ∷ items) = omega (arith, stops_most items)
stops_most (GroupStop ∷ items) = omega (arith, stops_most items)

pub stops_of_front : (items : List PatItem) (n : ℕ) → stops (take n items) ≤ stops items
stops_of_front items n =
    let whole : stops (take n items) + stops (drop n items) ≡ stops items = sym (stops-append (take n items) (drop n items)) ∙ ap stops (take-append-drop n items) in
    omega arith

pub balanced_plain : (items : List PatItem) → starts items ≡ 0 → stops items ≡ 0 → IsBalanced items
balanced_plain items a b = record { even = a ∙ sym b; fronts = λ n. omega (arith, stops_of_front items n) }

pub balanced-append : (a b : List PatItem) → IsBalanced a → IsBalanced b → IsBalanced (a ++ b)
balanced-append a b x y =
    let P : ℕ → Type 0 = λ n. stops (take n (a ++ b)) ≤ starts (take n (a ++ b)) in
    record {
      even = omega (arith, starts-append a b, stops-append a b, x.even, y.even);
      fronts = λ n. elim (cases_lt n (length a)) as (λ _. P n) [
        | inl h ↦
            let short : n ≤ length a = omega arith in
            rw (take-append-le n a b short) (x.fronts n)
        | inr h ↦
            let m : ℕ = n - length a in
            let is : length a + m ≡ n = omega arith in
            let e : take n (a ++ b) ≡ a ++ take m b = ap (λ k. take k (a ++ b)) (sym is) ∙ take-append-add a b m in
            rw e (omega (arith, starts-append a (take m b), stops-append a (take m b), x.even, y.fronts m))
      ];
    }

fronts_of_group : (b : List PatItem) → IsBalanced b → (n : ℕ) → stops (take n (GroupStart ∷ (b ++ GroupStop ∷ []))) ≤ starts (take n (GroupStart ∷ (b ++ GroupStop ∷ [])))
fronts_of_group b x zero = omega arith
fronts_of_group b x (suc n) =
    let P : Type 0 = 0 + stops (take n (b ++ GroupStop ∷ [])) ≤ 1 + starts (take n (b ++ GroupStop ∷ [])) in
    elim (cases_lt n (length b)) as (λ _. P) [
      | inl h ↦
          let short : n ≤ length b = omega arith in
          rw (take-append-le n b (GroupStop ∷ []) short) (omega (arith, x.fronts n))
      | inr h ↦
          let m : ℕ = n - length b in
          let is : length b + m ≡ n = omega arith in
          let last : List PatItem = GroupStop ∷ [] in
          let e : take n (b ++ last) ≡ b ++ take m last = ap (λ k. take k (b ++ last)) (sym is) ∙ take-append-add b last m in
          let one : stops (take m last) ≤ 1 = omega (arith, stops_most last, stops_of_front last m) in
          rw e (omega (arith, starts-append b (take m last), stops-append b (take m last), x.even))
    ]

pub balanced_group : (b : List PatItem) → IsBalanced b → IsBalanced (GroupStart ∷ (b ++ GroupStop ∷ []))
balanced_group b x =
    record {
      even = omega (arith, starts-append b (GroupStop ∷ []), stops-append b (GroupStop ∷ []), x.even);
      fronts = fronts_of_group b x;
    }

-- a group is open behind the first k items: it started at an item, and what came since then is balanced
pub record IsOpen (items : List PatItem) (start k : ℕ) : Type 0 where
  pub before : start < k
  pub starts : slice_get items start ≡ Some GroupStart
  pub between : IsBalanced (slice_range items (start + 1) k)

-- the starts of the open groups, the innermost first
abbrev pub AreOpen : List PatItem → List ℕ → ℕ → Type 0
AreOpen items [] k = Unit {0}
AreOpen items (start ∷ starts) k = IsOpen items start k × AreOpen items starts start

pub open_on : (items : List PatItem) (ss : List ℕ) (k n : ℕ) → AreOpen items ss k → k ≤ n → IsBalanced (slice_range items k n) → AreOpen items ss n
open_on items [] k n h le balanced = tt
open_on items (s ∷ ss) k n h le balanced =
    let one : IsOpen items s k = h.0 in
    let lo : s + 1 ≤ k = omega (arith, one.before) in
    let here : IsOpen items s n = record {
      before = omega (arith, one.before);
      starts = one.starts;
      between = rw (range_join items (s + 1) k n lo le) (balanced-append (slice_range items (s + 1) k) (slice_range items k n) one.between balanced);
    } in
    (here, h.1)

pub open_start : (items : List PatItem) (ss : List ℕ) (k : ℕ) → AreOpen items ss k → slice_get items k ≡ Some GroupStart → AreOpen items (k ∷ ss) (k + 1)
open_start items ss k h is =
    let here : IsOpen items k (k + 1) = record {
      before = omega arith;
      starts = is;
      between = rw (range_none items (k + 1)) (balanced_plain [] refl refl);
    } in
    (here, h)

-- a group and its two ends are balanced
pub group_balanced : (items : List PatItem) (s k : ℕ) → IsOpen items s k → slice_get items k ≡ Some GroupStop → IsBalanced (slice_range items s (k + 1))
group_balanced items s k one is =
    let inner : List PatItem = slice_range items (s + 1) k in
    let a : slice_range items s (k + 1) ≡ slice_range items s (s + 1) ++ slice_range items (s + 1) (k + 1) = range_join items s (s + 1) (k + 1) (omega arith) (omega (arith, one.before)) in
    let b : slice_range items (s + 1) (k + 1) ≡ inner ++ slice_range items k (k + 1) = range_join items (s + 1) k (k + 1) (omega (arith, one.before)) (omega arith) in
    let first : slice_range items s (s + 1) ≡ GroupStart ∷ [] = range_one items s GroupStart one.starts in
    let last : slice_range items k (k + 1) ≡ GroupStop ∷ [] = range_one items k GroupStop is in
    let whole : slice_range items s (k + 1) ≡ GroupStart ∷ (inner ++ GroupStop ∷ []) =
    a ∙ ap (λ f. f ++ slice_range items (s + 1) (k + 1)) first ∙ ap (λ r. GroupStart ∷ r) (b ∙ ap (λ l. inner ++ l) last) in
    subst IsBalanced (sym whole) (balanced_group inner one.between)

pub open_stop : (items : List PatItem) (s : ℕ) (ss : List ℕ) (k : ℕ) → AreOpen items (s ∷ ss) k → slice_get items k ≡ Some GroupStop → AreOpen items ss (k + 1)
open_stop items s ss k h is =
    let one : IsOpen items s k = h.0 in
    open_on items ss s (k + 1) h.1 (omega (arith, one.before)) (group_balanced items s k one is)

pub partner_of : (items : List PatItem) (s k : ℕ) → IsOpen items s k → slice_get items k ≡ Some GroupStop → IsPartner items s k
partner_of items s k one is = record { before = one.before; starts = one.starts; ends = is; between = one.between }

no_inner : (items : List PatItem) (s s' t : ℕ) → IsPartner items s t → IsPartner items s' t → s < s' → ⊥
no_inner items s s' t x y lt =
    let front : List PatItem = slice_range items (s + 1) s' in
    let rest : List PatItem = slice_range items (s' + 1) t in
    let a : slice_range items (s + 1) t ≡ front ++ slice_range items s' t = range_join items (s + 1) s' t (omega arith) (omega (arith, y.before)) in
    let b : slice_range items s' t ≡ slice_range items s' (s' + 1) ++ rest = range_join items s' (s' + 1) t (omega arith) (omega (arith, y.before)) in
    let first : slice_range items s' (s' + 1) ≡ GroupStart ∷ [] = range_one items s' GroupStart y.starts in
    let whole : slice_range items (s + 1) t ≡ front ++ GroupStart ∷ rest = a ∙ ap (λ r. front ++ r) (b ∙ ap (λ f. f ++ rest) first) in
    let balanced : IsBalanced (front ++ GroupStart ∷ rest) = subst IsBalanced whole x.between in
    let fronts : stops front ≤ starts front = rw (take-append_seam front (GroupStart ∷ rest)) at (balanced.fronts (length front)) in
    omega (arith, balanced.even, starts-append front (GroupStart ∷ rest), stops-append front (GroupStart ∷ rest), y.between.even)

pub one_partner : (items : List PatItem) (s s' t : ℕ) → IsPartner items s t → IsPartner items s' t → s ≡ s'
one_partner items s s' t x y =
    elim (cases_lt s s') as (λ _. s ≡ s') [
      | inl h ↦ absurd (no_inner items s s' t x y h)
      | inr h ↦ elim (cases_lt s' s) as (λ _. s ≡ s') [
        | inl h' ↦ absurd (no_inner items s' s t y x h')
        | inr h' ↦ omega arith
      ]
    ]

-- the group end before which there are so many
pub record EndsAt (items : List PatItem) (n : ℕ) : Type 0 where
  pub at : ℕ
  pub is : slice_get items at ≡ Some GroupStop
  pub before : stops (take at items) ≡ n

pub ends_at : (items : List PatItem) (n : ℕ) → n < stops items → EndsAt items n
ends_at [] n h = absurd (omega arith)
ends_at (Literal b ∷ items) n h =
    let rest : EndsAt items n = ends_at items n (omega arith) in
    record { at = suc rest.at; is = rest.is; before = omega (arith, rest.before) }
ends_at (Skip k ∷ items) n h =
    let rest : EndsAt items n = ends_at items n (omega arith) in
    record { at = suc rest.at; is = rest.is; before = omega (arith, rest.before) }
ends_at (Search s ∷ items) n h =
    let rest : EndsAt items n = ends_at items n (omega arith) in
    record { at = suc rest.at; is = rest.is; before = omega (arith, rest.before) }
ends_at (GroupStart ∷ items) n h =
    let rest : EndsAt items n = ends_at items n (omega arith) in
    record { at = suc rest.at; is = rest.is; before = omega (arith, rest.before) }
ends_at (GroupStop ∷ items) zero h = record { at = 0; is = refl; before = refl }
ends_at (GroupStop ∷ items) (suc n) h =
    let rest : EndsAt items n = ends_at items n (omega arith) in
    record { at = suc rest.at; is = rest.is; before = omega (arith, rest.before) }

group_at : (items : List PatItem) (places : List ℕ) (g : List (ℕ × ℕ)) (n : ℕ) (d : ℕ × ℕ) (end : EndsAt items n) (h : IsGroup items places g end.at) → get_or g n d ≡ (get_or places h.0 0, get_or places end.at 0)
group_at items places g n d end h =
    get_or_from_slice_get g n (get_or places h.0 0, get_or places end.at 0) d (subst (λ k. slice_get g k ≡ Some (get_or places h.0 0, get_or places end.at 0)) end.before h.2)

same_at : (items : List PatItem) (places : List ℕ) (g g' : List (ℕ × ℕ)) (n : ℕ) (d : ℕ × ℕ) (end : EndsAt items n) (x : IsGroup items places g end.at) (y : IsGroup items places g' end.at) → get_or g n d ≡ get_or g' n d
same_at items places g g' n d end x y =
    let start : x.0 ≡ y.0 = one_partner items x.0 y.0 end.at x.1 y.1 in
    let a : get_or g n d ≡ (get_or places x.0 0, get_or places end.at 0) = group_at items places g n d end x in
    let b : get_or g' n d ≡ (get_or places y.0 0, get_or places end.at 0) = group_at items places g' n d end y in
    let c : get_or g n d ≡ (get_or places y.0 0, get_or places end.at 0) = subst (λ k. get_or g n d ≡ (get_or places k 0, get_or places end.at 0)) start a in
    c ∙ sym b

same_group : (items : List PatItem) (places : List ℕ) (g g' : List (ℕ × ℕ)) → AreGroups items places g → AreGroups items places g' → (n : ℕ) (d : ℕ × ℕ) → n < length g → get_or g n d ≡ get_or g' n d
same_group items places g g' x y n d h =
    let end : EndsAt items n = ends_at items n (omega (arith, x.number)) in
    same_at items places g g' n d end (x.each end.at end.is) (y.each end.at end.is)

pub one_list_of_groups : (items : List PatItem) (places : List ℕ) (g g' : List (ℕ × ℕ)) → AreGroups items places g → AreGroups items places g' → g ≡ g'
one_list_of_groups items places g g' x y =
    same_lists g g' (x.number ∙ sym y.number) (same_group items places g g' x y)
