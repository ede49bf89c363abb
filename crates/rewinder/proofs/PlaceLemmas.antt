-- Where a step comes to.
use Rattle.std.proofs.Common.{◌≡◌, ◌⊎◌, inl, inr, ℕ, zero, suc, ◌+◌, ◌-◌, ◌<◌, ◌≤◌, Option, Some, None, List, arith, refl, sym, ap, subst, ◌∙◌}
use Rattle.std.specs.Prelude.{min}
use Rattle.std.proofs.lemmas.Bool.{cases_lt}
use Rattle.fuun_base.specs.declared.letters.Base.{Base}
use Rattle.exec_loop.specs.Attempt as attempt
use Rattle.exec_loop.specs.Attempt.{Attempt, Ending, IsAttempt, next_dna}
use Rattle.exec_loop.proofs.Attempts.{has_attempt, one_attempt}
use Rattle.rewinder.specs.declared.orders.Stop.{Stop}
use Rattle.rewinder.specs.declared.orders.Stop.TheVariants.{Limit, Finish, TooLong}
use Rattle.rewinder.specs.Versions.{most_attempts, IsVersion, EndsBy, IsEnd}
use Rattle.rewinder.specs.Places.{StopsBy, IsNearest}
use Rattle.rewinder.proofs.VersionLemmas.{version_is_one, version_more, version_within}

ends_at : (limit : ℕ) (start : List Base) (place : ℕ) (dna : List Base) (ending : Ending) → IsVersion limit start place dna → next_dna ending ≡ None → EndsBy limit dna ending → IsEnd limit start place
ends_at limit start place dna ending version none x = record { dna = dna; version = version; attempt = x.attempt; is = x.is; none = ap next_dna x.ends ∙ none }

record IsLeast (limit : ℕ) (start : List Base) (asked place : ℕ) : Type 0 where
  within : place ≤ asked
  why : (place ≡ asked) ⊎ ((place ≡ most_attempts) ⊎ IsEnd limit start place)

least_by : (limit : ℕ) (start : List Base) (asked place : ℕ) (dna : List Base) (stop : Option Stop) → IsVersion limit start place dna → StopsBy limit dna asked place stop → IsLeast limit start asked place
least_by limit start asked place dna None version x = record { within = omega (arith, x); why = inl x }
least_by limit start asked place dna (Some Limit) version x = record { within = omega (arith, x.0); why = inr (inl x.1) }
least_by limit start asked place dna (Some Finish) version x = record { within = omega (arith, x.0); why = inr (inr (ends_at limit start place dna attempt.Finished version refl x.2)) }
least_by limit start asked place dna (Some TooLong) version x = record { within = omega (arith, x.0); why = inr (inr (ends_at limit start place dna attempt.TooLong version refl x.2)) }

pub place_is_least : (limit : ℕ) (start : List Base) (asked place : ℕ) (stop : Option Stop) → IsNearest limit start asked place stop
    → (place ≤ asked) × (place ≤ most_attempts) × ((end : ℕ) → IsEnd limit start end → place ≤ end) × ((place ≡ asked) ⊎ ((place ≡ most_attempts) ⊎ IsEnd limit start place))
place_is_least limit start asked place stop x =
    let least : IsLeast limit start asked place = least_by limit start asked place x.dna stop x.version x.stops in
    (least.within, x.most, λ (end : ℕ) (e : IsEnd limit start end). version_within limit start place end x.dna x.version e, least.why)

-- each version within what was asked for comes no later
pub no_later : (limit : ℕ) (start : List Base) (asked place other : ℕ) (stop : Option Stop) (dna : List Base) → IsNearest limit start asked place stop → IsVersion limit start other dna → other ≤ asked → other ≤ most_attempts → other ≤ place
no_later limit start asked place other stop dna x version within few =
    let least : IsLeast limit start asked place = least_by limit start asked place x.dna stop x.version x.stops in
    elim least.why [
      | inl is ↦ omega (arith, is, within)
      | inr why ↦ elim why [
        | inl is ↦ omega (arith, is, few)
        | inr end ↦ version_within limit start other place dna version end
      ]
    ]

finish_or_too_long : (limit : ℕ) (dna : List Base) → EndsBy limit dna attempt.Finished → EndsBy limit dna attempt.TooLong → ⊥
finish_or_too_long limit dna x y =
    let same : x.attempt ≡ y.attempt = one_attempt dna limit x.attempt y.attempt x.is y.is in
    let ends : attempt.Finished ≡ attempt.TooLong = sym x.ends ∙ ap (λ (a : Attempt). a.ending) same ∙ y.ends in
    cc

one_stop : (limit : ℕ) (dna : List Base) (asked place : ℕ) (s t : Option Stop) → StopsBy limit dna asked place s → StopsBy limit dna asked place t → s ≡ t
one_stop limit dna asked place None None x y = refl
one_stop limit dna asked place None (Some Limit) x y = absurd (omega (arith, x, y.0))
one_stop limit dna asked place None (Some Finish) x y = absurd (omega (arith, x, y.0))
one_stop limit dna asked place None (Some TooLong) x y = absurd (omega (arith, x, y.0))
one_stop limit dna asked place (Some Limit) None x y = absurd (omega (arith, x.0, y))
one_stop limit dna asked place (Some Limit) (Some Limit) x y = refl
one_stop limit dna asked place (Some Limit) (Some Finish) x y = absurd (omega (arith, x.1, y.1))
one_stop limit dna asked place (Some Limit) (Some TooLong) x y = absurd (omega (arith, x.1, y.1))
one_stop limit dna asked place (Some Finish) None x y = absurd (omega (arith, x.0, y))
one_stop limit dna asked place (Some Finish) (Some Limit) x y = absurd (omega (arith, x.1, y.1))
one_stop limit dna asked place (Some Finish) (Some Finish) x y = refl
one_stop limit dna asked place (Some Finish) (Some TooLong) x y = absurd (finish_or_too_long limit dna x.2 y.2)
one_stop limit dna asked place (Some TooLong) None x y = absurd (omega (arith, x.0, y))
one_stop limit dna asked place (Some TooLong) (Some Limit) x y = absurd (omega (arith, x.1, y.1))
one_stop limit dna asked place (Some TooLong) (Some Finish) x y = absurd (finish_or_too_long limit dna y.2 x.2)
one_stop limit dna asked place (Some TooLong) (Some TooLong) x y = refl

-- a step comes to one place, for one reason
pub record SamePlace (p q : ℕ) (s t : Option Stop) : Type 0 where
  pub place : p ≡ q
  pub stop : s ≡ t

pub one_place : (limit : ℕ) (start : List Base) (asked p q : ℕ) (s t : Option Stop) → IsNearest limit start asked p s → IsNearest limit start asked q t → SamePlace p q s t
one_place limit start asked p q s t x y =
    let p_within : p ≤ asked = (place_is_least limit start asked p s x).0 in
    let q_within : q ≤ asked = (place_is_least limit start asked q t y).0 in
    let below : p ≤ q = no_later limit start asked q p t x.dna y x.version p_within x.most in
    let above : q ≤ p = no_later limit start asked p q s y.dna x y.version q_within y.most in
    let same : q ≡ p = omega arith in
    let there : IsVersion limit start p y.dna = subst (λ n. IsVersion limit start n y.dna) same y.version in
    let dnas : y.dna ≡ x.dna = version_is_one limit start p y.dna x.dna there x.version in
    let stops : StopsBy limit x.dna asked p t = subst (λ d. StopsBy limit d asked p t) dnas (subst (λ n. StopsBy limit y.dna asked n t) same y.stops) in
    record { place = sym same; stop = one_stop limit x.dna asked p s t x.stops stops }

-- there is such a place

pub record HasNearest (limit : ℕ) (start : List Base) (asked : ℕ) : Type 0 where
  pub place : ℕ
  pub stop : Option Stop
  pub is : IsNearest limit start asked place stop

goes_or_ends : (limit : ℕ) (start : List Base) (asked place : ℕ) (dna : List Base) (made : Attempt) (ending : Ending) → IsVersion limit start place dna → place < asked → place < most_attempts
    → IsAttempt dna limit made → made.ending ≡ ending → ((next : List Base) → next_dna made.ending ≡ Some next → HasNearest limit start asked) → HasNearest limit start asked
goes_or_ends limit start asked place dna made (attempt.Matched at next) version short few is ends further = further next (ap next_dna ends)
goes_or_ends limit start asked place dna made (attempt.NoMatch next) version short few is ends further = further next (ap next_dna ends)
goes_or_ends limit start asked place dna made attempt.TooLong version short few is ends further = record {
  place = place;
  stop = Some TooLong;
  is = record { dna = dna; version = version; most = omega (arith, few); stops = (short, few, record { attempt = made; is = is; ends = ends }) };
}
goes_or_ends limit start asked place dna made attempt.Finished version short few is ends further = record {
  place = place;
  stop = Some Finish;
  is = record { dna = dna; version = version; most = omega (arith, few); stops = (short, few, record { attempt = made; is = is; ends = ends }) };
}

here_or_limit : (limit : ℕ) (start : List Base) (asked place : ℕ) (dna : List Base) → IsVersion limit start place dna → place ≤ most_attempts → (place ≡ asked) ⊎ ((place < asked) × (place ≡ most_attempts)) → HasNearest limit start asked
here_or_limit limit start asked place dna version few (inl is) = record { place = place; stop = None; is = record { dna = dna; version = version; most = few; stops = is } }
here_or_limit limit start asked place dna version few (inr is) = record { place = place; stop = Some Limit; is = record { dna = dna; version = version; most = few; stops = (is.0, is.1) } }

which : (asked place : ℕ) → place ≤ asked → place ≤ most_attempts → min asked most_attempts - place ≡ 0 → (place ≡ asked) ⊎ ((place < asked) × (place ≡ most_attempts))
which asked place within few none =
    elim (cases_lt place asked) [
      | inl short ↦ inr (short, omega (arith, short, none, few))
      | inr past ↦ inl (omega (arith, past, within))
    ]

nearest_from : (left limit : ℕ) (start : List Base) (asked place : ℕ) (dna : List Base) → IsVersion limit start place dna → place ≤ asked → place ≤ most_attempts → min asked most_attempts - place ≡ left → HasNearest limit start asked
nearest_from zero limit start asked place dna version within few is = here_or_limit limit start asked place dna version few (which asked place within few is)
nearest_from (suc left) limit start asked place dna version within few is =
    let made : (a : Attempt) × IsAttempt dna limit a = has_attempt dna limit in
    goes_or_ends limit start asked place dna made.0 made.0.ending version (omega (arith, is)) (omega (arith, is)) made.1 refl
    (λ (next : List Base) (gives : next_dna made.0.ending ≡ Some next). nearest_from left limit start asked (place + 1) next (version_more limit start place dna made.0 next version made.1 gives) (omega (arith, is)) (omega (arith, is)) (omega (arith, is)))

pub has_nearest : (limit : ℕ) (start : List Base) (asked place : ℕ) (dna : List Base) → IsVersion limit start place dna → place ≤ asked → place ≤ most_attempts → HasNearest limit start asked
has_nearest limit start asked place dna version within few = nearest_from (min asked most_attempts - place) limit start asked place dna version within few refl
