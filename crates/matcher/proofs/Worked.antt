-- The matches that were worked out by hand are matches.
use Rattle.std.proofs.Common.{◌≡◌, ℕ, zero, suc, ◌+◌, ◌<◌, ◌≤◌, Some, List, [], ◌∷◌, ◌++◌, arith, refl}
use Rattle.std.specs.Prelude.{slice_get}
use Rattle.std.proofs.lemmas.Option.{none-some}
use Rattle.fuun_base.specs.declared.letters.Base.{Base}
use Rattle.fuun_base.specs.declared.letters.Base.TheVariants.{C, F, P}
use Rattle.fuun_base.specs.Occurrence.{IsFirst, Stands}
use Rattle.dna_items.specs.declared.items.PatItem.{PatItem}
use Rattle.dna_items.specs.declared.items.PatItem.TheVariants.{Base as Literal, Skip, Search, GroupStart, GroupStop}
use Rattle.dna_items.specs.Balance.{IsBalanced}
use Rattle.matcher.specs.Groups.{IsGroup}
use Rattle.matcher.specs.Worked.{nested, NestedGroups, SearchGoesOn, SearchFindsNone, SkipToTheEnd, SkipPastTheEnd}
use Rattle.matcher.proofs.OpenGroups.{balanced_plain, balanced-append, balanced_group}

one_skip : IsBalanced (Skip 1 ∷ [])
one_skip = balanced_plain (Skip 1 ∷ []) refl refl

inner_and_p : IsBalanced (GroupStart ∷ Skip 1 ∷ GroupStop ∷ Literal P ∷ [])
inner_and_p = balanced-append (GroupStart ∷ ((Skip 1 ∷ []) ++ GroupStop ∷ [])) (Literal P ∷ []) (balanced_group (Skip 1 ∷ []) one_skip) (balanced_plain (Literal P ∷ []) refl refl)

inside : IsBalanced (Skip 1 ∷ GroupStart ∷ Skip 1 ∷ GroupStop ∷ Literal P ∷ [])
inside = balanced-append (Skip 1 ∷ []) (GroupStart ∷ Skip 1 ∷ GroupStop ∷ Literal P ∷ []) one_skip inner_and_p

abbrev nested_places : List ℕ
nested_places = 0 ∷ 0 ∷ 1 ∷ 1 ∷ 2 ∷ 2 ∷ 3 ∷ 3 ∷ []

nested_each : (stop : ℕ) → slice_get nested stop ≡ Some GroupStop → IsGroup nested nested_places ((1, 2) ∷ (0, 3) ∷ []) stop
nested_each zero e = absurd (let h : GroupStart ≡ GroupStop = cc in cc)
nested_each (suc zero) e = absurd (cc)
nested_each (suc (suc zero)) e = absurd (let h : GroupStart ≡ GroupStop = cc in cc)
nested_each (suc (suc (suc zero))) e = absurd (cc)
nested_each (suc (suc (suc (suc zero)))) e = (2, record { before = omega arith; starts = refl; ends = refl; between = one_skip }, refl)
nested_each (suc (suc (suc (suc (suc zero))))) e = absurd (cc)
nested_each (suc (suc (suc (suc (suc (suc zero)))))) e = (0, record { before = omega arith; starts = refl; ends = refl; between = inside }, refl)
nested_each (suc (suc (suc (suc (suc (suc (suc n))))))) e = absurd (none-some GroupStop e)

pub nested_groups : NestedGroups
nested_groups = record {
  places = nested_places;
  ranges = (1, 2) ∷ (0, 3) ∷ [];
  is = (refl, (refl, ((refl, omega arith), (refl, ((refl, omega arith), (refl, ((refl, refl), (refl, tt))))))));
  stops = refl;
  grouped = record { number = refl; each = nested_each };
  moves = refl;
}

abbrev searched : List Base
searched = P ∷ C ∷ F ∷ C ∷ F ∷ []

first_search : IsFirst (C ∷ F ∷ []) searched 0 1
first_search = record {
  after = omega arith;
  stands = record { within = omega arith; there = refl };
  least = before;
} where
  before : (earlier : ℕ) → 0 ≤ earlier → earlier < 1 → Stands (C ∷ F ∷ []) searched earlier → ⊥
  before zero low high stands = let e = stands.there in cc
  before (suc n) low high stands = omega arith

second_search : IsFirst (C ∷ F ∷ []) searched 3 3
second_search = record {
  after = omega arith;
  stands = record { within = omega arith; there = refl };
  least = λ earlier low high stands. omega arith;
}

no_groups : (items : List PatItem) (places : List ℕ) → ((stop : ℕ) → slice_get items stop ≡ Some GroupStop → ⊥) → (stop : ℕ) → slice_get items stop ≡ Some GroupStop → IsGroup items places [] stop
no_groups items places none stop e = absurd (none stop e)

two_searches : (stop : ℕ) → slice_get (Search (C ∷ F ∷ []) ∷ Search (C ∷ F ∷ []) ∷ []) stop ≡ Some GroupStop → ⊥
two_searches zero e = cc
two_searches (suc zero) e = cc
two_searches (suc (suc n)) e = none-some GroupStop e

pub search_goes_on : SearchGoesOn
search_goes_on = record {
  places = 0 ∷ 3 ∷ 5 ∷ [];
  ranges = [];
  is = (refl, ((1, first_search, refl), ((3, second_search, refl), tt)));
  stops = refl;
  grouped = record { number = refl; each = no_groups (Search (C ∷ F ∷ []) ∷ Search (C ∷ F ∷ []) ∷ []) (0 ∷ 3 ∷ 5 ∷ []) two_searches };
  moves = refl;
}

absent : (place : ℕ) → Stands (F ∷ F ∷ []) searched place → ⊥
absent zero x = let e = x.there in cc
absent (suc zero) x = let e = x.there in cc
absent (suc (suc zero)) x = let e = x.there in cc
absent (suc (suc (suc zero))) x = let e = x.there in cc
absent (suc (suc (suc (suc n)))) x = let h = x.within in omega arith

pub search_finds_none : SearchFindsNone
search_finds_none [] x = x
search_finds_none (i ∷ []) x = x.1
search_finds_none (i ∷ j ∷ places) x = absent x.1.0.0 x.1.0.1.stands

one_skip_alone : (stop : ℕ) → slice_get (Skip 2 ∷ []) stop ≡ Some GroupStop → ⊥
one_skip_alone zero e = cc
one_skip_alone (suc n) e = none-some GroupStop e

pub skip_to_the_end : SkipToTheEnd
skip_to_the_end = record {
  places = 0 ∷ 2 ∷ [];
  ranges = [];
  is = (refl, ((refl, omega arith), tt));
  stops = refl;
  grouped = record { number = refl; each = no_groups (Skip 2 ∷ []) (0 ∷ 2 ∷ []) one_skip_alone };
  moves = refl;
}

pub skip_past_the_end : SkipPastTheEnd
skip_past_the_end [] x = x
skip_past_the_end (i ∷ []) x = x.1
skip_past_the_end (i ∷ j ∷ places) x =
    let is : j ≡ i + 3 = x.1.0.0 in
    let within : j ≤ 2 = x.1.0.1 in
    omega arith
