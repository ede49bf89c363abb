-- Exactly one list of places is as far as items lead, and it is that of a match where they have one.
use Rattle.std.proofs.Common.{◌≡◌, ℕ, ◌+◌, ◌<◌, ◌≤◌, inl, inr, Some, List, [], ◌∷◌, ◌++◌, length, take, arith, refl, ap, sym, ◌∙◌, subst, map, drop, ◌-◌}
use Rattle.std.specs.Prelude.{slice_get}
use Rattle.std.proofs.lemmas.Bool.{cases_lt}
use Rattle.std.proofs.lemmas.List.{take_all}
use Rattle.std.proofs.lemmas.Option.{none-some, same_Some, slice_get_within}
use Rattle.fuun_base.specs.declared.letters.Base.{Base}
use Rattle.dna_items.specs.declared.items.PatItem.{PatItem}
use Rattle.dna_items.specs.Balance.{IsBalanced}
use Rattle.matcher.specs.Found.{MatchesAt, moved}
use Rattle.matcher.specs.Groups.{AreGroups}
use Rattle.matcher.specs.Match.{Meets, LeadThrough, IsMatch, HasNoMatch, last_place}
use Rattle.matcher.specs.Step.{MeetsNowhere}
use Rattle.matcher.proofs.Grouping.{groups_exist}
use Rattle.matcher.proofs.OpenGroups.{one_list_of_groups}
use Rattle.matcher.proofs.Matches.{meets_or}
use Rattle.matcher.proofs.Places.{meets_same, through_length}
use Rattle.match_text.specs.Groups.{AreMovedGroups, moved_back}
use Rattle.match_text.specs.Laws.{HasText, LedIsMatched, TextIsOne}
use Rattle.match_text.specs.Told.{LeadSoFar, GroupsSoFar, TellsMatch}
use Rattle.match_text.specs.Way.{parts, way, group_lines}

-- as far as items lead from a place
pub record Led (d : List Base) (items : List PatItem) (i : ℕ) (places : List ℕ) : Type 0 where
  pub within : length places ≤ length items
  pub through : LeadThrough d (take (length places) items) i places
  pub stuck : (item : PatItem) → slice_get items (length places) ≡ Some item → MeetsNowhere d item (last_place (i ∷ places))

led_of : (d : List Base) (items : List PatItem) (places : List ℕ) → LeadSoFar d items places → Led d items 0 places
led_of d items places l = record { within = l.within; through = l.through; stuck = l.stuck }

led_rest : (d : List Base) (item : PatItem) (items : List PatItem) (i j : ℕ) (places : List ℕ) → Led d (item ∷ items) i (j ∷ places) → Led d items j places
led_rest d item items i j places l = record { within = omega (arith, l.within); through = l.through.1; stuck = l.stuck }

led_same : (d : List Base) (items : List PatItem) (i : ℕ) (ps qs : List ℕ) → Led d items i ps → Led d items i qs → ps ≡ qs
led_same d [] i [] [] a b = refl
led_same d [] i (p ∷ ps) qs a b = absurd (omega (arith, a.within))
led_same d [] i [] (q ∷ qs) a b = absurd (omega (arith, b.within))
led_same d (item ∷ items) i [] [] a b = refl
led_same d (item ∷ items) i [] (q ∷ qs) a b = absurd (a.stuck item refl q b.through.0)
led_same d (item ∷ items) i (p ∷ ps) [] a b = absurd (b.stuck item refl p a.through.0)
led_same d (item ∷ items) i (p ∷ ps) (q ∷ qs) a b =
    let e : p ≡ q = meets_same d item i p q a.through.0 b.through.0 in
    let rest : ps ≡ qs = led_same d items p ps qs (led_rest d item items i p ps a) (subst (λ n. Led d items n qs) (sym e) (led_rest d item items i q qs b)) in
    cc

-- items that lead through to the end
led_through : (d : List Base) (items : List PatItem) (i : ℕ) (places : List ℕ) → LeadThrough d items i places → Led d items i places
led_through d items i places through =
    let long : length places ≡ length items = through_length d items i places through in
    record {
      within = omega (arith, long);
      through = subst (λ xs. LeadThrough d xs i places) (sym (take_all (length places) items (omega (arith, long)))) through;
      stuck = λ item there j meets. let inside : length places < length items = slice_get_within items (length places) item there in omega (arith, long);
    }

-- there are places
pub record LedSome (d : List Base) (items : List PatItem) (i : ℕ) : Type 0 where
  pub places : List ℕ
  pub led : Led d items i places

led_on : (d : List Base) (item : PatItem) (items : List PatItem) (i j : ℕ) → Meets d item i j → LedSome d items j → LedSome d (item ∷ items) i
led_on d item items i j meets rest = record {
  places = j ∷ rest.places;
  led = record { within = omega (arith, rest.led.within); through = (meets, rest.led.through); stuck = rest.led.stuck };
}

led_some : (d : List Base) (items : List PatItem) (i : ℕ) → LedSome d items i
led_some d [] i = record { places = []; led = record { within = omega arith; through = tt; stuck = λ item there. absurd (none-some item there) } }
led_some d (item ∷ items) i =
    elim (meets_or d item i) [
      | inl here ↦ led_on d item items i here.0 here.1 (led_some d items here.0)
      | inr none ↦ record {
        places = [];
        led = record { within = omega arith; through = tt; stuck = λ x there j meets. none j (subst (λ y. Meets d y i j) (sym (same_Some item x there)) meets) };
      }
    ]

so_far_matched : (d : List Base) (items : List PatItem) (places : List ℕ) → LeadSoFar d items places → length places ≡ length items → IsMatch d items (0 ∷ places)
so_far_matched d items places l whole =
    (refl, subst (λ xs. LeadThrough d xs 0 places) (take_all (length places) items (omega (arith, whole))) l.through)

match_so_far : (d : List Base) (items : List PatItem) (places found : List ℕ) → LeadSoFar d items places → IsMatch d items found → (found ≡ 0 ∷ places) × (length places ≡ length items)
match_so_far d items places [] l is = absurd is
match_so_far d items places (i ∷ ps) l is =
    let through : LeadThrough d items 0 ps = subst (λ n. LeadThrough d items n ps) is.0 is.1 in
    let same : ps ≡ places = led_same d items 0 ps places (led_through d items 0 ps through) (led_of d items places l) in
    (ap (λ n. n ∷ ps) is.0 ∙ ap (λ l. 0 ∷ l) same, ap length (sym same) ∙ through_length d items 0 ps through)

pub led_is_matched : LedIsMatched
led_is_matched d items places l = (so_far_matched d items places l, λ found is. match_so_far d items places found l is)

some_groups : (items : List PatItem) (places : List ℕ) → IsBalanced items → (groups : List (ℕ × ℕ)) × GroupsSoFar items places groups
some_groups items places balanced =
    elim (cases_lt (length places) (length items)) [
      | inl few ↦ ([], record { matched = λ whole. absurd (omega (arith, few, whole)); failed = λ lacks. refl })
      | inr most ↦ let groups = groups_exist items (0 ∷ places) balanced in
          (groups.0, record { matched = λ whole. groups.1; failed = λ lacks. absurd (omega (arith, most, lacks)) })
    ]

pub has_text : HasText
has_text d items balanced =
    let some : LedSome d items 0 = led_some d items 0 in
    let groups = some_groups items some.places balanced in (
      way (parts items) 0 some.places ++ group_lines 0 groups.0,
      record {
        places = some.places;
        so_far = record { within = some.led.within; through = some.led.through; stuck = some.led.stuck };
        groups = groups.0;
        grouped = groups.1;
        is = refl;
      },
    )

same_groups : (items : List PatItem) (places : List ℕ) (a b : List (ℕ × ℕ)) → length places ≤ length items → GroupsSoFar items places a → GroupsSoFar items places b → a ≡ b
same_groups items places a b within x y =
    elim (cases_lt (length places) (length items)) [
      | inl few ↦ x.failed few ∙ sym (y.failed few)
      | inr most ↦ let whole : length places ≡ length items = omega (arith, most, within) in
          one_list_of_groups items (0 ∷ places) a b (x.matched whole) (y.matched whole)
    ]

pub text_is_one : TextIsOne
text_is_one d items a b x y =
    let places : y.places ≡ x.places = led_same d items 0 y.places x.places (led_of d items y.places y.so_far) (led_of d items x.places x.so_far) in
    let grouped : GroupsSoFar items x.places y.groups = subst (λ ps. GroupsSoFar items ps y.groups) places y.grouped in
    let groups : x.groups ≡ y.groups = same_groups items x.places x.groups y.groups x.so_far.within x.grouped grouped in
    x.is ∙ ap (λ g. way (parts items) 0 x.places ++ group_lines 0 g) groups ∙ ap (λ ps. way (parts items) 0 ps ++ group_lines 0 y.groups) (sym places) ∙ sym y.is

-- what a match on the strand says of the groups
pub groups_matched : (d : List Base) (place : ℕ) (items : List PatItem) (stop : ℕ) (groups : List (ℕ × ℕ)) (places : List ℕ) → MatchesAt d place items stop groups → LeadSoFar (drop place d) items places → AreMovedGroups place items places groups
groups_matched d place items stop groups places m l =
    let same = match_so_far (drop place d) items places m.places l m.is in
    record {
      ranges = m.ranges;
      grouped = record {
        matched = λ whole. subst (λ ps. AreGroups items ps m.ranges) same.0 m.grouped;
        failed = λ few. absurd (omega (arith, few, same.1));
      };
      moves = m.moves;
    }

pub groups_failed : (d : List Base) (place : ℕ) (items : List PatItem) (places : List ℕ) → HasNoMatch (drop place d) items → LeadSoFar (drop place d) items places → AreMovedGroups place items places []
groups_failed d place items places none l = record {
  ranges = [];
  grouped = record { matched = λ whole. absurd (none (0 ∷ places) (so_far_matched (drop place d) items places l whole)); failed = λ few. refl };
  moves = refl;
}

pub moved_there_and_back : (place : ℕ) (ranges : List (ℕ × ℕ)) → map (moved_back place) (map (moved place) ranges) ≡ ranges
moved_there_and_back place [] = refl
moved_there_and_back place (range ∷ ranges) =
    let a : place + range.0 - place ≡ range.0 = omega arith in
    let b : place + range.1 - place ≡ range.1 = omega arith in
    let here : moved_back place (moved place range) ≡ range = ap (λ n. (n, place + range.1 - place)) a ∙ ap (λ n. (range.0, n)) b in
    ap (λ r. r ∷ map (moved_back place) (map (moved place) ranges)) here ∙ ap (λ rs. range ∷ rs) (moved_there_and_back place ranges)

-- what is put for groups, moved on by a place
pub tells_so_far : (d : List Base) (place : ℕ) (items : List PatItem) (places : List ℕ) (groups : List (ℕ × ℕ)) → LeadSoFar (drop place d) items places → AreMovedGroups place items places groups
    → TellsMatch (drop place d) items (way (parts items) 0 places ++ group_lines 0 (map (moved_back place) groups))
tells_so_far d place items places groups led m = record {
  places = places;
  so_far = led;
  groups = m.ranges;
  grouped = m.grouped;
  is = ap (λ g. way (parts items) 0 places ++ group_lines 0 g) (ap (map (moved_back place)) m.moves ∙ moved_there_and_back place m.ranges);
}
