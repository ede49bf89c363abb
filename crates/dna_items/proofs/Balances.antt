-- Fronts of a pattern and balanced parts of it.
use borrow.Author.Count.{below_more}
use Rattle.std.proofs.Common.{◌≡◌, ℕ, ◌+◌, ◌<◌, ◌≤◌, List, [], ◌∷◌, ◌++◌, zero, suc, length, take, get_or, arith, refl, sym, subst, inl, inr}
use Rattle.std.proofs.lemmas.Bool.{cases_lt}
use Rattle.std.proofs.lemmas.List.{take_more, take_all}
use Rattle.dna_items.specs.declared.items.PatItem.{PatItem}
use Rattle.dna_items.specs.declared.items.PatItem.TheVariants.{Base, Skip, Search, GroupStart, GroupStop}
use Rattle.dna_items.specs.Balance.{start_of, stop_of, starts, stops, IsBalanced}

pub starts-append : (a b : List PatItem) → starts (a ++ b) ≡ starts a + starts b
starts-append [] b = omega arith
starts-append (x ∷ a) b = omega (arith, starts-append a b)

pub stops-append : (a b : List PatItem) → stops (a ++ b) ≡ stops a + stops b
stops-append [] b = omega arith
stops-append (x ∷ a) b = omega (arith, stops-append a b)

pub starts_more : (items : List PatItem) (i : ℕ) (item : PatItem) → i < length items → starts (take (i + 1) items) ≡ starts (take i items) + start_of (get_or items i item)
starts_more items i item within =
    rw (take_more items i item within) (omega (arith, starts-append (take i items) (get_or items i item ∷ [])))

pub stops_more : (items : List PatItem) (i : ℕ) (item : PatItem) → i < length items → stops (take (i + 1) items) ≡ stops (take i items) + stop_of (get_or items i item)
stops_more items i item within =
    rw (take_more items i item within) (omega (arith, stops-append (take i items) (get_or items i item ∷ [])))

pub start_of_most : (item : PatItem) → start_of item ≤ 1
start_of_most (Base b) = omega arith
start_of_most (Skip n) = omega arith
start_of_most (Search s) = omega arith
start_of_most GroupStart = omega arith
start_of_most GroupStop = omega arith

-- so many groups are open behind the first i items
pub record IsDepth (items : List PatItem) (i depth : ℕ) : Type 0 where
  pub counts : depth + stops (take i items) ≡ starts (take i items)
  pub fronts : (n : ℕ) → n < i + 1 → stops (take n items) ≤ starts (take n items)
  pub most : depth ≤ i

first : (items : List PatItem) (n : ℕ) → n < 0 + 1 → stops (take n items) ≤ starts (take n items)
first items zero _ = omega arith
first items (suc n) h = absurd (omega arith)

pub depth_begins : (items : List PatItem) → IsDepth items 0 0
depth_begins items = record { counts = refl; fronts = first items; most = omega arith }

pub depth_more : (items : List PatItem) (i depth next : ℕ) (item : PatItem) → IsDepth items i depth → i < length items → item ≡ get_or items i item → next + stop_of item ≡ depth + start_of item → IsDepth items (i + 1) next
depth_more items i depth next item before within is steps =
    let ups : starts (take (i + 1) items) ≡ starts (take i items) + start_of item = subst (λ x. starts (take (i + 1) items) ≡ starts (take i items) + start_of x) (sym is) (starts_more items i item within) in
    let downs : stops (take (i + 1) items) ≡ stops (take i items) + stop_of item = subst (λ x. stops (take (i + 1) items) ≡ stops (take i items) + stop_of x) (sym is) (stops_more items i item within) in
    let counts : next + stops (take (i + 1) items) ≡ starts (take (i + 1) items) = omega (arith, before.counts) in
    record {
      counts = counts;
      fronts = below_more (λ n. stops (take n items) ≤ starts (take n items)) (i + 1) before.fronts (omega arith);
      most = omega (arith, before.most, start_of_most item);
    }

pub depth_fails : (items : List PatItem) (i depth : ℕ) (item : PatItem) → IsDepth items i depth → i < length items → item ≡ get_or items i item → depth + start_of item < stop_of item → IsBalanced items → ⊥
depth_fails items i depth item before within is lacks whole =
    let ups : starts (take (i + 1) items) ≡ starts (take i items) + start_of item = subst (λ x. starts (take (i + 1) items) ≡ starts (take i items) + start_of x) (sym is) (starts_more items i item within) in
    let downs : stops (take (i + 1) items) ≡ stops (take i items) + stop_of item = subst (λ x. stops (take (i + 1) items) ≡ stops (take i items) + stop_of x) (sym is) (stops_more items i item within) in
    omega (arith, before.counts, whole.fronts (i + 1))

pub depth_ends : (items : List PatItem) → IsDepth items (length items) 0 → IsBalanced items
depth_ends items all =
    let whole : take (length items) items ≡ items = take_all (length items) items (omega arith) in
    let counts : 0 + stops items ≡ starts items = rw whole at all.counts in
    let even : starts items ≡ stops items = omega arith in
    let P : ℕ → Type 0 = λ n. stops (take n items) ≤ starts (take n items) in
    record {
      even = omega arith;
      fronts = λ n. elim (cases_lt n (length items + 1)) as (λ _. P n) [
        | inl h ↦ all.fronts n h
        | inr h ↦ rw (take_all n items (omega arith)) (omega arith)
      ];
    }

pub depth_left : (items : List PatItem) (depth : ℕ) → IsDepth items (length items) depth → IsBalanced items → depth ≡ 0
depth_left items depth all whole =
    let counts : depth + stops items ≡ starts items = rw (take_all (length items) items (omega arith)) at all.counts in
    omega (arith, whole.even)
