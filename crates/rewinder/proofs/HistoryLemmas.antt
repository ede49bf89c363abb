-- Versions that are made one after the other.
use Rattle.std.proofs.Common.{◌≡◌, ◌⊎◌, inl, inr, ℕ, ◌+◌, ◌-◌, ◌<◌, ◌≤◌, ◌^◌, Option, Some, None, IfSome, List, [], ◌∷◌, ◌++◌, length, slice_index_or, arith, refl, sym, ap, subst, ◌∙◌, append-nil, append_assoc, length-append}
use Rattle.std.proofs.lemmas.Bool.{cases_lt}
use Rattle.std.proofs.lemmas.Option.{none-some}
use Rattle.std.proofs.lemmas.List.{get_or_append_left, get_or_push}
use Rattle.fuun_base.specs.declared.letters.Base.{Base}
use Rattle.fuun_base.specs.Ticks.{Ticks}
use Rattle.exec_loop.specs.Attempt.{Attempt, IsAttempt}
use Rattle.exec_loop.specs.Run.{Leads}
use Rattle.exec_loop.specs.Weights.{Weighs, WeighTogether, TicksFor, TicksForAttempt}
use Rattle.exec_loop.proofs.AttemptByAttempt.{leads_more}
use Rattle.exec_loop.proofs.Attempts.{has_attempt}
use Rattle.exec_loop.proofs.Weighing.{has_weight, weigh_more}
use Rattle.rewinder.specs.declared.orders.Stop.{Stop}
use Rattle.rewinder.specs.declared.orders.Stop.TheVariants.{Limit, Finish, TooLong}
use Rattle.rewinder.specs.Versions.{most_attempts, IsVersion}
use Rattle.rewinder.specs.Rewinding.{HasVersions}
use Rattle.rewinder.specs.Weights.{LastTried}
use Rattle.rewinder.specs.History.{History, version, reached, rewinding, EndsFor, IsHistory, GoesOn, last_version, last_state, Grows, ByOne, ByStop, Extends, Makes, Keeps, Reaches, There, Here, Short, FailsToReach}
use Rattle.rewinder.proofs.VersionLemmas.{first_version, version_more}

-- a list that grew by one

at_last : (kept : List (List Base)) (next : List Base) (k : ℕ) → length kept ≡ k → slice_index_or (kept ++ next ∷ []) k [] ≡ next
at_last kept next k is = get_or_push kept next [] k is

last_of_push : (kept : List (List Base)) (next : List Base) → slice_index_or (kept ++ next ∷ []) (length (kept ++ next ∷ []) - 1) [] ≡ next
last_of_push kept next = at_last kept next (length (kept ++ next ∷ []) - 1) (omega (arith, length-append kept (next ∷ [])))

before_push : (kept added : List (List Base)) (k : ℕ) → k < length kept → slice_index_or (kept ++ added) k [] ≡ slice_index_or kept k []
before_push kept added k lt = get_or_append_left kept added [] k lt

-- histories

pub history_new : (limit : ℕ) (dna : List Base) → 1 ≤ limit → limit ≤ 2 ^ 40 → length dna ≤ limit → IsHistory (record { limit = limit; kept = dna ∷ []; stop = None })
history_new limit dna some most within = record {
  some = some;
  most = most;
  one = omega arith;
  few = omega arith;
  is = λ (number : ℕ) (lt : number < 1). let none : 0 ≡ number = omega (arith, lt) in subst (λ n. IsVersion limit dna n (slice_index_or (dna ∷ []) n [])) none (first_version limit dna);
  within = λ (number : ℕ) (lt : number < 1). let none : 0 ≡ number = omega (arith, lt) in subst (λ n. length (slice_index_or (dna ∷ []) n []) ≤ limit) none within;
  stops = tt;
}

pub history_more : (h : History) (next : List Base) → IsHistory h → GoesOn h.limit (last_version h) next → length next ≤ h.limit → reached h < most_attempts → IsHistory (record { limit = h.limit; kept = h.kept ++ next ∷ []; stop = None })
history_more h next x goes fits room =
    let one : 0 < length h.kept = x.one in
    let size : length (h.kept ++ next ∷ []) ≡ length h.kept + 1 = omega (arith, length-append h.kept (next ∷ [])) in
    let first : slice_index_or (h.kept ++ next ∷ []) 0 [] ≡ version h 0 = before_push h.kept (next ∷ []) 0 one in
    let new : History = record { limit = h.limit; kept = h.kept ++ next ∷ []; stop = None } in
    let there : IsVersion h.limit (version h 0) (length h.kept) next =
    let number : reached h + 1 ≡ length h.kept = omega (arith, one) in
    subst (λ n. IsVersion h.limit (version h 0) n next) number (version_more h.limit (version h 0) (reached h) (last_version h) goes.attempt next (x.is (reached h) (omega (arith, one))) goes.is goes.gives) in
    record {
      some = x.some;
      most = x.most;
      one = omega (arith, size);
      few = omega (arith, size, room, one);
      is = λ (number : ℕ) (lt : number < length new.kept).
          subst (λ d. IsVersion h.limit d number (version new number)) (sym first)
          (elim (cases_lt number (length h.kept)) [
            | inl less ↦ subst (λ d. IsVersion h.limit (version h 0) number d) (sym (before_push h.kept (next ∷ []) number less)) (x.is number less)
            | inr past ↦
                let last : length h.kept ≡ number = omega (arith, size, lt, past) in
                subst (λ d. IsVersion h.limit (version h 0) number d) (sym (at_last h.kept next number last)) (subst (λ n. IsVersion h.limit (version h 0) n next) last there)
          ]);
      within = λ (number : ℕ) (lt : number < length new.kept).
          elim (cases_lt number (length h.kept)) [
            | inl less ↦ subst (λ (d : List Base). length d ≤ h.limit) (sym (before_push h.kept (next ∷ []) number less)) (x.within number less)
            | inr past ↦
                let last : length h.kept ≡ number = omega (arith, size, lt, past) in
                subst (λ (d : List Base). length d ≤ h.limit) (sym (at_last h.kept next number last)) fits
          ];
      stops = tt;
    }

-- the same, told of the value that the fields stand for
pub history_pushed : (h value : History) (kept : List (List Base)) (next : List Base) → h ≡ value → kept ≡ h.kept ++ next ∷ [] → IsHistory h → GoesOn value.limit (last_version value) next → length next ≤ value.limit → value.stop ≡ None
    → reached value < most_attempts → IsHistory (record { limit = h.limit; kept = kept; stop = h.stop })
history_pushed h value kept next is grown x goes fits none room =
    let stop : h.stop ≡ None = ap (λ (v : History). v.stop) is ∙ none in
    let here : IsHistory (record { limit = h.limit; kept = h.kept ++ next ∷ []; stop = None }) =
    history_more h next x (subst (λ (v : History). GoesOn v.limit (last_version v) next) (sym is) goes) (subst (λ (v : History). length next ≤ v.limit) (sym is) fits) (subst (λ (v : History). reached v < most_attempts) (sym is) room) in
    subst (λ s. IsHistory (record { limit = h.limit; kept = kept; stop = s })) (sym stop) (subst (λ l. IsHistory (record { limit = h.limit; kept = l; stop = None })) (sym grown) here)

pub history_stop : (h : History) (stop : Stop) → IsHistory h → EndsFor h.limit (last_version h) stop → IsHistory (record { limit = h.limit; kept = h.kept; stop = Some stop })
history_stop h stop x ends = record {
  some = x.some;
  most = x.most;
  one = x.one;
  few = x.few;
  is = x.is;
  within = x.within;
  stops = ends;
}

pub has_versions : (h : History) (attempt : ℕ) → IsHistory h → HasVersions (rewinding h attempt)
has_versions h attempt x = λ (number : ℕ) (most : number ≤ reached h).
    let one : 0 < length h.kept = x.one in
    let lt : number < length h.kept = omega (arith, one, most) in
    record { dna = version h number; version = x.is number lt; within = x.within number lt }

-- attempts that were made

-- the attempt that ended a history, and what it weighs
record Tried (height limit : ℕ) (dna : List Base) (stop : Option Stop) : Type 0 where
  more : List Attempt
  tried : LastTried limit dna stop more
  total : ℕ
  weigh : WeighTogether height dna more total

one_tried : (height limit : ℕ) (dna : List Base) (a : Attempt) → IsAttempt dna limit a → (n : ℕ) × WeighTogether height dna (a ∷ []) n
one_tried height limit dna a is =
    let w : (n : ℕ) × Weighs height dna a n = has_weight height dna limit a is in
    (w.0, (w.0, 0, w.1, refl, omega arith))

ended : (height limit : ℕ) (dna : List Base) (stop : Option Stop) → IfSome stop (EndsFor limit dna) → Tried height limit dna stop
ended height limit dna None x = record { more = []; tried = refl; total = 0; weigh = refl }
ended height limit dna (Some Limit) x = absurd x
ended height limit dna (Some Finish) x =
    let w : (n : ℕ) × WeighTogether height dna (x.attempt ∷ []) n = one_tried height limit dna x.attempt x.is in
    record { more = x.attempt ∷ []; tried = (x.attempt, x.is, refl); total = w.0; weigh = w.1 }
ended height limit dna (Some TooLong) x =
    let w : (n : ℕ) × WeighTogether height dna (x.attempt ∷ []) n = one_tried height limit dna x.attempt x.is in
    record { more = x.attempt ∷ []; tried = (x.attempt, x.is, refl); total = w.0; weigh = w.1 }

pub makes_none : (height : ℕ) (h : History) (steps : ℕ) → IsHistory h → Makes height h h steps steps
makes_none height h steps x =
    let last : Tried height h.limit (last_version h) h.stop = ended height h.limit (last_version h) h.stop x.stops in
    record {
      attempts = [];
      extends = record { limit = refl; added = []; kept = sym (append-nil h.kept); leads = refl; count = refl };
      more = last.more;
      tried = last.tried;
      ticks = record { total = last.total; weigh = last.weigh; ticks = (omega arith, omega arith) };
    }

-- the attempts behind which another one is made
record Open (height : ℕ) (old mid : History) (old_steps steps : ℕ) : Type 0 where
  attempts : List Attempt
  extends : Extends old mid attempts
  ticks : TicksFor height (last_version old) attempts old_steps steps

opened : (height : ℕ) (old mid : History) (old_steps steps : ℕ) → Makes height old mid old_steps steps → mid.stop ≡ None → Open height old mid old_steps steps
opened height old mid old_steps steps m is =
    let tried : LastTried old.limit (last_version mid) None m.more = subst (λ s. LastTried old.limit (last_version mid) s m.more) is m.tried in
    record {
      attempts = m.attempts;
      extends = m.extends;
      ticks = subst (λ l. TicksFor height (last_version old) l old_steps steps) (ap (λ l. m.attempts ++ l) tried ∙ append-nil m.attempts) m.ticks;
    }

-- the steps of one attempt more
tried_more : (height : ℕ) (old mid : History) (old_steps steps new_steps : ℕ) (x : Open height old mid old_steps steps) (a : Attempt) → IsAttempt (last_version mid) mid.limit a → TicksForAttempt height (last_state mid) steps new_steps
    → TicksFor height (last_version old) (x.attempts ++ a ∷ []) old_steps new_steps
tried_more height old mid old_steps steps new_steps x a is ticks =
    let w : (n : ℕ) × Weighs height (last_version mid) a n = has_weight height (last_version mid) mid.limit a is in
    let more : Ticks steps new_steps w.0 = ticks a w.0 is w.1 in
    let before : Ticks old_steps steps x.ticks.total = x.ticks.ticks in
    record {
      total = x.ticks.total + w.0;
      weigh = weigh_more height old.limit (last_version old) x.attempts (last_version mid) a x.ticks.total w.0 x.extends.leads x.ticks.weigh w.1;
      ticks = (omega (arith, more.0, before.0), omega (arith, more.1, before.1));
    }

under : (height : ℕ) (old mid : History) (old_steps steps : ℕ) (x : Open height old mid old_steps steps) (a : Attempt) → IsAttempt (last_version mid) mid.limit a → IsAttempt (last_version mid) old.limit a
under height old mid old_steps steps x a is = subst (λ n. IsAttempt (last_version mid) n a) x.extends.limit is

made_one : (height : ℕ) (old mid : History) (old_steps steps new_steps : ℕ) (next : List Base) → Open height old mid old_steps steps → GoesOn mid.limit (last_version mid) next → TicksForAttempt height (last_state mid) steps new_steps
    → Makes height old (record { limit = mid.limit; kept = mid.kept ++ next ∷ []; stop = None }) old_steps new_steps
made_one height old mid old_steps steps new_steps next x goes ticks =
    let new : History = record { limit = mid.limit; kept = mid.kept ++ next ∷ []; stop = None } in
    let last : last_version new ≡ next = last_of_push mid.kept next in
    let leads : Leads old.limit (last_version old) (x.attempts ++ goes.attempt ∷ []) next =
    leads_more old.limit (last_version old) x.attempts (last_version mid) goes.attempt next x.extends.leads (under height old mid old_steps steps x goes.attempt goes.is) goes.gives in
    record {
      attempts = x.attempts ++ goes.attempt ∷ [];
      extends = record {
        limit = x.extends.limit;
        added = x.extends.added ++ next ∷ [];
        kept = ap (λ l. l ++ next ∷ []) x.extends.kept ∙ append_assoc old.kept x.extends.added (next ∷ []);
        leads = subst (λ d. Leads old.limit (last_version old) (x.attempts ++ goes.attempt ∷ []) d) (sym last) leads;
        count = omega (arith, length-append x.extends.added (next ∷ []), length-append x.attempts (goes.attempt ∷ []), x.extends.count);
      };
      more = [];
      tried = refl;
      ticks = subst (λ l. TicksFor height (last_version old) l old_steps new_steps) (sym (append-nil (x.attempts ++ goes.attempt ∷ []))) (tried_more height old mid old_steps steps new_steps x goes.attempt goes.is ticks);
    }

stop_tried : (height : ℕ) (old mid : History) (old_steps steps new_steps : ℕ) (stop : Stop) (a : Attempt) (x : Open height old mid old_steps steps) → LastTried old.limit (last_version mid) (Some stop) (a ∷ []) → IsAttempt (last_version mid) mid.limit a
    → TicksForAttempt height (last_state mid) steps new_steps → Makes height old (record { limit = mid.limit; kept = mid.kept; stop = Some stop }) old_steps new_steps
stop_tried height old mid old_steps steps new_steps stop a x tried is ticks = record {
  attempts = x.attempts;
  extends = record { limit = x.extends.limit; added = x.extends.added; kept = x.extends.kept; leads = x.extends.leads; count = x.extends.count };
  more = a ∷ [];
  tried = tried;
  ticks = tried_more height old mid old_steps steps new_steps x a is ticks;
}

made_stop : (height : ℕ) (old mid : History) (old_steps steps new_steps : ℕ) (stop : Stop) → Open height old mid old_steps steps → EndsFor mid.limit (last_version mid) stop → TicksForAttempt height (last_state mid) steps new_steps
    → Makes height old (record { limit = mid.limit; kept = mid.kept; stop = Some stop }) old_steps new_steps
made_stop height old mid old_steps steps new_steps Limit x ends ticks = absurd ends
made_stop height old mid old_steps steps new_steps Finish x ends ticks =
    stop_tried height old mid old_steps steps new_steps Finish ends.attempt x (ends.attempt, under height old mid old_steps steps x ends.attempt ends.is, refl) ends.is ticks
made_stop height old mid old_steps steps new_steps TooLong x ends ticks =
    stop_tried height old mid old_steps steps new_steps TooLong ends.attempt x (ends.attempt, under height old mid old_steps steps x ends.attempt ends.is, refl) ends.is ticks

-- what holds while versions are made up to one of a number
pub record Making (height : ℕ) (old new : History) (number old_steps new_steps : ℕ) : Type 0 where
  pub makes : Makes height old new old_steps new_steps
  pub quiet : number ≤ reached old → (new ≡ old) × (new_steps ≡ old_steps)
  pub within : reached old < number → reached new ≤ number
  pub short : reached old < number → (new.stop ≡ None) ⊎ (reached new < number)
  pub known : IsHistory new

option_case : (stop : Option Stop) → (stop ≡ None) ⊎ ((s : Stop) × (stop ≡ Some s))
option_case None = inl refl
option_case (Some s) = inr (s, refl)

pub making_none : (height : ℕ) (h : History) (number steps : ℕ) → IsHistory h → Making height h h number steps steps
making_none height h number steps x = record {
  makes = makes_none height h steps x;
  quiet = λ _. (refl, refl);
  within = λ lt. omega (arith, lt);
  short = λ lt. inr lt;
  known = x;
}

-- there is a version to make, so it was not there at first
was_short : (height : ℕ) (old mid : History) (number old_steps steps : ℕ) → Making height old mid number old_steps steps → reached mid < number → reached old < number
was_short height old mid number old_steps steps m lt =
    elim (cases_lt (reached old) number) [
      | inl less ↦ less
      | inr past ↦ let same : reached mid ≡ reached old = ap reached (m.quiet past).0 in omega (arith, same, lt, past)
    ]

pub making_more : (height : ℕ) (old mid new : History) (number old_steps steps new_steps : ℕ) → Making height old mid number old_steps steps → mid.stop ≡ None → reached mid < number → Grows mid new → IsHistory new
    → TicksForAttempt height (last_state mid) steps new_steps → Making height old new number old_steps new_steps
making_more height old mid new number old_steps steps new_steps m open_ lt (ByOne next goes is) known ticks =
    let less : reached old < number = was_short height old mid number old_steps steps m lt in
    let grown : History = record { limit = mid.limit; kept = mid.kept ++ next ∷ []; stop = None } in
    let one : 0 < length mid.kept = m.known.one in
    let size : reached new ≡ length (mid.kept ++ next ∷ []) - 1 = ap reached is in
    record {
      makes = subst (λ (h : History). Makes height old h old_steps new_steps) (sym is) (made_one height old mid old_steps steps new_steps next (opened height old mid old_steps steps m.makes open_) goes ticks);
      quiet = λ past. absurd (omega (arith, past, less));
      within = λ _. omega (arith, size, length-append mid.kept (next ∷ []), lt, one);
      short = λ _. inl (ap (λ (h : History). h.stop) is);
      known = known;
    }
making_more height old mid new number old_steps steps new_steps m open_ lt (ByStop stop ends is) known ticks =
    let less : reached old < number = was_short height old mid number old_steps steps m lt in
    let size : reached new ≡ reached mid = ap reached is in
    record {
      makes = subst (λ (h : History). Makes height old h old_steps new_steps) (sym is) (made_stop height old mid old_steps steps new_steps stop (opened height old mid old_steps steps m.makes open_) ends ticks);
      quiet = λ past. absurd (omega (arith, past, less));
      within = λ _. omega (arith, size, lt);
      short = λ _. inr (omega (arith, size, lt));
      known = known;
    }

-- no version is to make
pub making_done : (height : ℕ) (old new : History) (number old_steps new_steps : ℕ) → Making height old new number old_steps new_steps → (new.stop ≡ None → number ≤ reached new) → Reaches height old new number old_steps new_steps
making_done height old new number old_steps new_steps m done =
    elim (cases_lt (reached old) number) [
      | inr past ↦ There past (m.quiet past).0 (m.quiet past).1
      | inl less ↦ elim (option_case new.stop) [
        | inl none ↦
            let at : number ≤ reached new = done none in
            let within : reached new ≤ number = m.within less in Here less m.makes none (omega (arith, at, within))
        | inr some ↦ elim (m.short less) [
          | inl none ↦ absurd (none-some some.0 (sym none ∙ some.1))
          | inr short ↦ Short some.0 m.makes some.1 short
        ]
      ]
    ]

pub making_failed : (height : ℕ) (old mid new : History) (number old_steps steps new_steps : ℕ) → Making height old mid number old_steps steps → mid.stop ≡ None → reached mid < number → new ≡ mid
    → TicksForAttempt height (last_state mid) steps new_steps → FailsToReach height old new number old_steps new_steps
making_failed height old mid new number old_steps steps new_steps m open_ lt same ticks =
    let x : Open height old mid old_steps steps = opened height old mid old_steps steps m.makes open_ in
    let hand : (a : Attempt) × IsAttempt (last_version mid) mid.limit a = has_attempt (last_version mid) mid.limit in
    let failed : FailsToReach height old mid number old_steps new_steps = record {
      short = lt;
      attempts = x.attempts;
      extends = x.extends;
      attempt = hand.0;
      is = under height old mid old_steps steps x hand.0 hand.1;
      ticks = tried_more height old mid old_steps steps new_steps x hand.0 hand.1 ticks;
    } in
    subst (λ (h : History). FailsToReach height old h number old_steps new_steps) (sym same) failed

-- versions that were kept

pub keeps : (old new : History) (attempts : List Attempt) → 0 < length old.kept → Extends old new attempts → Keeps old new
keeps old new attempts one x =
    let size : length new.kept ≡ length (old.kept ++ x.added) = ap length x.kept in
    record {
      limit = x.limit;
      more = omega (arith, size, length-append old.kept x.added);
      same = λ (number : ℕ) (lt : number < length old.kept). ap (λ l. slice_index_or l number []) x.kept ∙ before_push old.kept x.added number lt;
    }

pub keeps_all : (h : History) → Keeps h h
keeps_all h = record { limit = refl; more = omega arith; same = λ (number : ℕ) (lt : number < length h.kept). refl }

pub making_keeps : (height : ℕ) (old new : History) (number old_steps new_steps : ℕ) → 0 < length old.kept → Making height old new number old_steps new_steps → Keeps old new
making_keeps height old new number old_steps new_steps one m = keeps old new m.makes.attempts one m.makes.extends
