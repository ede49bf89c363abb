-- Items that go through cells, one after the other.
use Rattle.std.proofs.Common.{◌≡◌, ℕ, ◌+◌, ◌<◌, ◌≤◌, inl, inr, List, [], ◌∷◌, ◌++◌, length, get_or, drop, map, arith, refl, sym, ap, subst, ◌∙◌, append_assoc}
use Rattle.std.proofs.lemmas.List.{length-map, drop_more, drop_all}
use Rattle.fuun_base.specs.declared.letters.Base.{Base}
use Rattle.dna_items.specs.declared.items.PatItem.{PatItem}
use Rattle.dna_items.specs.declared.items.PatItem.TheVariants.{GroupStop}
use Rattle.dna_items.specs.Balance.{IsBalanced}
use Rattle.matcher.specs.Groups.{AreGroups}
use Rattle.matcher.specs.Match.{IsMatch, last_place}
use Rattle.matcher.specs.Found.{MatchesAt, moved}
use Rattle.matcher.specs.Step.{LeadsOver, Marked}
use Rattle.matcher.proofs.Matches.{match_is_one}
use Rattle.matcher.proofs.Reached.{Reached, reached_begins, reached_more, reached_within, reached_open, reached_ends, reached_inside}
use Rattle.sym_strand.specs.declared.cells.Cell.{Cell}
use Rattle.explainer.specs.Filling.{base_in, fill}
use Rattle.explainer.specs.Leading.{Leads, Fails, Depends, LeadAlong, FailAlong, DependAlong}
use Rattle.explainer.specs.Passing.{LeadTo}
use Rattle.explainer.proofs.Filled.{leads_filled, along_filled}

-- the first items led to a place: what the others do from there, all do from the start
pub record GoneTo (z : List Cell) (items : List PatItem) (k at : ℕ) (held : List ℕ) (ended : List (ℕ × ℕ)) : Type 0 where
  pub reached : Reached (fill [] z) items 0 k at held ended
  pub front : List ℕ
  pub leads : (places : List ℕ) → LeadAlong z (drop k items) at places → LeadAlong z items 0 (front ++ places)
  pub fails : FailAlong z (drop k items) at → FailAlong z items 0
  pub depends : DependAlong z (drop k items) at → DependAlong z items 0

pub gone_nowhere : (z : List Cell) (items : List PatItem) → GoneTo z items 0 0 [] []
gone_nowhere z items = record {
  reached = reached_begins (fill [] z) items 0 (omega arith);
  front = [];
  leads = λ places x. x;
  fails = λ x. x;
  depends = λ x. x;
}

pub gone_within : (z : List Cell) (items : List PatItem) (k at : ℕ) (held : List ℕ) (ended : List (ℕ × ℕ)) → GoneTo z items k at held ended → at ≤ length z
gone_within z items k at held ended h = omega (arith, (reached_within (fill [] z) items 0 k at held ended h.reached).1, length-map z (base_in []))

item_first : (items : List PatItem) (k : ℕ) (item : PatItem) → k < length items → item ≡ get_or items k item → drop k items ≡ item ∷ drop (k + 1) items
item_first items k item inside is = drop_more items k item inside ∙ ap (λ x. x ∷ drop (k + 1) items) (sym is)

pub gone_open : (z : List Cell) (items : List PatItem) (k at : ℕ) (held : List ℕ) (ended : List (ℕ × ℕ)) (item : PatItem) → GoneTo z items k at held ended → IsBalanced items
    → k < length items → item ≡ get_or items k item → item ≡ GroupStop → 0 < length held
gone_open z items k at held ended item h balanced inside is stop =
    reached_open (fill [] z) items item 0 k at held ended h.reached balanced inside (ap (λ l. get_or l 0 item) (item_first items k item inside is)) stop

over_one : (z : List Cell) (item : PatItem) (items : List PatItem) (at next : ℕ) → Leads z item at next → LeadsOver (fill [] z) (item ∷ items) at 1 next
over_one z item items at next leads = record {
  some = omega arith;
  within = omega arith;
  apart = inl refl;
  places = next ∷ [];
  through = (leads_filled [] z item at next leads, tt);
  reached = refl;
}

pub gone_on : (z : List Cell) (items : List PatItem) (k at next : ℕ) (held held' : List ℕ) (ended ended' : List (ℕ × ℕ)) (item : PatItem) → GoneTo z items k at held ended
    → k < length items → item ≡ get_or items k item → Leads z item at next → Marked item at held ended held' ended' → GoneTo z items (k + 1) next held' ended'
gone_on z items k at next held held' ended ended' item h inside is leads marks =
    let first : drop k items ≡ item ∷ drop (k + 1) items = item_first items k item inside is in
    record {
      reached = reached_more (fill [] z) items item 0 k at 1 next held held' ended ended' h.reached inside (ap (λ l. get_or l 0 item) first)
          (subst (λ l. LeadsOver (fill [] z) l at 1 next) (sym first) (over_one z item (drop (k + 1) items) at next leads)) marks;
      front = h.front ++ next ∷ [];
      leads = λ places x. subst (LeadAlong z items 0) (sym (append_assoc h.front (next ∷ []) places))
          (h.leads (next ∷ places) (subst (λ l. LeadAlong z l at (next ∷ places)) (sym first) (leads, x)));
      fails = λ x. h.fails (subst (λ l. FailAlong z l at) (sym first) (inr (next, leads, x)));
      depends = λ x. h.depends (subst (λ l. DependAlong z l at) (sym first) (inr (next, leads, x)));
    }

pub gone_failing : (z : List Cell) (items : List PatItem) (k at : ℕ) (held : List ℕ) (ended : List (ℕ × ℕ)) (item : PatItem) → GoneTo z items k at held ended
    → k < length items → item ≡ get_or items k item → Fails z item at → FailAlong z items 0
gone_failing z items k at held ended item h inside is fails =
    h.fails (subst (λ l. FailAlong z l at) (sym (item_first items k item inside is)) (inl fails))

pub gone_depending : (z : List Cell) (items : List PatItem) (k at : ℕ) (held : List ℕ) (ended : List (ℕ × ℕ)) (item : PatItem) → GoneTo z items k at held ended
    → k < length items → item ≡ get_or items k item → Depends z item at → DependAlong z items 0
gone_depending z items k at held ended item h inside is depends =
    h.depends (subst (λ l. DependAlong z l at) (sym (item_first items k item inside is)) (inl depends))

moved_nowhere : (ranges : List (ℕ × ℕ)) → map (moved 0) ranges ≡ ranges
moved_nowhere [] = refl
moved_nowhere (range ∷ ranges) =
    let a : 0 + range.0 ≡ range.0 = omega arith in
    let b : 0 + range.1 ≡ range.1 = omega arith in
    ap (λ n. (n, 0 + range.1) ∷ map (moved 0) ranges) a ∙ ap (λ n. (range.0, n) ∷ map (moved 0) ranges) b ∙ ap (λ l. range ∷ l) (moved_nowhere ranges)

pub gone_through : (z : List Cell) (items : List PatItem) (k at : ℕ) (held : List ℕ) (ended : List (ℕ × ℕ)) → GoneTo z items k at held ended → k ≡ length items → LeadTo z items at ended
gone_through z items k at held ended h end =
    let d : List Base = fill [] z in
    let reached : Reached d items 0 (length items) at held ended = subst (λ n. Reached d items 0 n at held ended) end h.reached in
    let found : MatchesAt d 0 items at ended = reached_ends d items 0 at held ended reached in
    let none : drop k items ≡ [] = drop_all k items (omega arith) in
    let places : List ℕ = h.front ++ [] in
    let leads : LeadAlong z items 0 places = h.leads [] (subst (λ l. LeadAlong z l at []) (sym none) tt) in
    let mine : IsMatch d items (0 ∷ places) = (refl, along_filled [] z items 0 places leads) in
    let same : found.places ≡ 0 ∷ places = match_is_one d items found.places (0 ∷ places) found.is mine in
    let groups : found.ranges ≡ ended = sym (found.moves ∙ moved_nowhere found.ranges) in
    record {
      places = places;
      leads = leads;
      stops = found.stops ∙ (let e : 0 + last_place found.places ≡ last_place found.places = omega arith in e) ∙ ap last_place same;
      grouped = subst (λ l. AreGroups items l ended) same (subst (AreGroups items found.places) groups found.grouped);
      stop_within = gone_within z items k at held ended h;
      groups_within = λ n r inside. let lies = reached_inside d items 0 k at held ended h.reached n r inside in
          (lies.0, let most = lies.1 in omega (arith, most, length-map z (base_in [])));
    }
