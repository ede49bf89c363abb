-- What orders weigh.
use Rattle.std.proofs.Common.{◌≡◌, inl, inr, ℕ, ◌+◌, ◌<◌, ◌≤◌, Option, Some, None, Result, Ok, Err, List, [], ◌∷◌, ◌++◌, length, arith, refl, sym, ap, subst, ◌∙◌, length-append}
use Rattle.std.specs.Prelude.{max}
use Rattle.std.proofs.lemmas.Bool.{cases_lt}
use Rattle.fuun_base.specs.declared.letters.Base.{Base}
use Rattle.fuun_base.specs.Ticks.{Ticks}
use Rattle.exec_loop.specs.Attempt.{Attempt, IsAttempt}
use Rattle.exec_loop.specs.Made.{dna_behind}
use Rattle.exec_loop.specs.Weights.{Weighs, WeighTogether}
use Rattle.exec_loop.proofs.Weighing.{front_weighs, has_weight}
use Rattle.rewinder.specs.declared.orders.Order.{Order}
use Rattle.rewinder.specs.declared.orders.Order.TheVariants.{Step, Back, Show, Where}
use Rattle.rewinder.specs.declared.orders.RewindError.{RewindError}
use Rattle.rewinder.specs.declared.orders.RewindError.TheVariants.{WriteFault, NoMemory}
use Rattle.rewinder.specs.declared.orders.Stop.{Stop}
use Rattle.rewinder.specs.declared.orders.Stop.TheVariants.{Limit, Finish, TooLong}
use Rattle.rewinder.specs.Versions.{most_attempts, IsVersion}
use Rattle.rewinder.specs.Places.{StopsBy, IsNearest}
use Rattle.rewinder.specs.Texts.{Obeys}
use Rattle.rewinder.specs.Rewinding.{Rewinding}
use Rattle.rewinder.specs.Weights.{AreBetween, LastTried, StepTicks, FailedTicks, OrderTicks, StepWeighs, OrderWeighs, ScriptWeighs}
use Rattle.rewinder.proofs.VersionLemmas.{version_behind, version_is_one, Follow, follow_chain, front_of, earlier_version, EarlierVersion, ticks_within, version_within}
use Rattle.rewinder.proofs.PlaceLemmas.{one_place, SamePlace, no_later, place_is_least}
use Rattle.rewinder.proofs.TextLemmas.{has_move, HasMove}

-- the attempt that ended a step

abbrev pub tried_count : Option Stop → ℕ
tried_count None = 0
tried_count (Some Limit) = 0
tried_count (Some Finish) = 1
tried_count (Some TooLong) = 1

count_of_tried : (limit : ℕ) (dna : List Base) (stop : Option Stop) (more : List Attempt) → LastTried limit dna stop more → length more ≡ tried_count stop
count_of_tried limit dna None more x = ap length x
count_of_tried limit dna (Some Limit) more x = ap length x
count_of_tried limit dna (Some Finish) more x = ap length x.2
count_of_tried limit dna (Some TooLong) more x = ap length x.2

follow_tried : (limit : ℕ) (dna : List Base) (stop : Option Stop) (more : List Attempt) → LastTried limit dna stop more → Follow limit dna more
follow_tried limit dna None more x = subst (Follow limit dna) (sym x) tt
follow_tried limit dna (Some Limit) more x = subst (Follow limit dna) (sym x) tt
follow_tried limit dna (Some Finish) more x = subst (Follow limit dna) (sym x.2) (x.1, tt)
follow_tried limit dna (Some TooLong) more x = subst (Follow limit dna) (sym x.2) (x.1, tt)

-- a step that stops short of what was asked for, and of the last place, tried the attempt that ended it
short_tries : (limit : ℕ) (dna : List Base) (asked place : ℕ) (stop : Option Stop) → StopsBy limit dna asked place stop → place < asked → place < most_attempts → tried_count stop ≡ 1
short_tries limit dna asked place None x short few = absurd (omega (arith, x, short))
short_tries limit dna asked place (Some Limit) x short few = absurd (omega (arith, x.1, few))
short_tries limit dna asked place (Some Finish) x short few = refl
short_tries limit dna asked place (Some TooLong) x short few = refl

-- the steps of a step are within its weight

obeyed_within : (height : ℕ) (old new : Rewinding) (asked place weight a b : ℕ) → new.reached ≡ max old.reached new.attempt → StepTicks height old new asked a b → StepWeighs height old.limit old.start asked old.reached place weight → Ticks a b weight
obeyed_within height old new asked place weight a b grew x w =
    let same : SamePlace new.attempt place x.stop w.stop = one_place old.limit old.start asked new.attempt place x.stop w.stop x.nearest w.nearest in
    let firsts : w.first ≡ x.first = version_is_one old.limit old.start old.reached w.first x.first w.between.version x.between.version in
    let made : Follow old.limit x.first (x.attempts ++ x.more) = follow_chain old.limit x.first x.attempts x.more x.last x.between.leads (follow_tried old.limit x.last x.stop x.more x.tried) in
    let all : Follow old.limit w.first (w.attempts ++ w.more) = follow_chain old.limit w.first w.attempts w.more w.last w.between.leads (follow_tried old.limit w.last w.stop w.more w.tried) in
    let last_made : length x.more ≡ tried_count x.stop = count_of_tried old.limit x.last x.stop x.more x.tried in
    let last_all : length w.more ≡ tried_count w.stop = count_of_tried old.limit w.last w.stop w.more w.tried in
    let stops : tried_count x.stop ≡ tried_count w.stop = ap tried_count same.stop in
    let places : new.attempt ≡ place = same.place in
    let few : length (x.attempts ++ x.more) ≤ length (w.attempts ++ w.more) =
    omega (arith, length-append x.attempts x.more, length-append w.attempts w.more, last_made, last_all, stops, places, grew, x.between.count, w.between.count) in
    ticks_within height old.limit x.first (x.attempts ++ x.more) (w.attempts ++ w.more) weight a b made (subst (λ d. Follow old.limit d (w.attempts ++ w.more)) firsts all) few x.ticks
    (subst (λ d. WeighTogether height d (w.attempts ++ w.more) weight) firsts w.weigh)

failed_within : (height : ℕ) (old new : Rewinding) (asked place weight a b : ℕ) → FailedTicks height old new asked a b → StepWeighs height old.limit old.start asked old.reached place weight → Ticks a b weight
failed_within height old new asked place weight a b x w =
    let firsts : w.first ≡ x.first = version_is_one old.limit old.start old.reached w.first x.first w.between.version x.between.version in
    let made : Follow old.limit x.first (x.attempts ++ x.attempt ∷ []) = follow_chain old.limit x.first x.attempts (x.attempt ∷ []) x.last x.between.leads (x.is, tt) in
    let all : Follow old.limit w.first (w.attempts ++ w.more) = follow_chain old.limit w.first w.attempts w.more w.last w.between.leads (follow_tried old.limit w.last w.stop w.more w.tried) in
    let last_all : length w.more ≡ tried_count w.stop = count_of_tried old.limit w.last w.stop w.more w.tried in
    let there : IsVersion old.limit old.start new.reached x.last =
    subst (λ n. IsVersion old.limit old.start n x.last) x.between.count (version_behind old.limit old.start old.reached (length x.attempts) x.first x.attempts x.last x.between.version x.between.leads refl) in
    let short : new.reached < asked = x.short in
    let few_made : new.reached < most_attempts = x.few in
    let within : new.reached ≤ place = no_later old.limit old.start asked place new.reached w.stop x.last w.nearest there (omega (arith, short)) (omega (arith, few_made)) in
    let ends : new.reached + 1 ≤ place + tried_count w.stop =
    elim (cases_lt new.reached place) [
      | inl less ↦ omega (arith, less)
      | inr past ↦
          let one : tried_count w.stop ≡ 1 = short_tries old.limit w.nearest.dna asked place w.stop w.nearest.stops (omega (arith, past, short)) (omega (arith, past, few_made)) in omega (arith, within, one)
    ] in
    let few : length (x.attempts ++ x.attempt ∷ []) ≤ length (w.attempts ++ w.more) =
    omega (arith, length-append x.attempts (x.attempt ∷ []), length-append w.attempts w.more, last_all, ends, x.between.count, w.between.count) in
    ticks_within height old.limit x.first (x.attempts ++ x.attempt ∷ []) (w.attempts ++ w.more) weight a b made (subst (λ d. Follow old.limit d (w.attempts ++ w.more)) firsts all) few x.ticks
    (subst (λ d. WeighTogether height d (w.attempts ++ w.more) weight) firsts w.weigh)

none_ticks : (a b : ℕ) (weight : ℕ) → b ≡ a → Ticks a b weight
none_ticks a b weight same = (omega (arith, same), omega (arith, same))

pub obeyed_order_within : {T : Type 0} → (height : ℕ) (old new : Rewinding) (order : Order) (value : T) (place weight a b : ℕ) → new.reached ≡ max old.reached new.attempt → OrderTicks height old new order (let r : Result T RewindError = Ok value in r) a b
    → OrderWeighs height old.limit old.start order old.attempt old.reached place weight → Ticks a b weight
obeyed_order_within height old new (Step count) value place weight a b grew x w = obeyed_within height old new (old.attempt + count) place weight a b grew x w
obeyed_order_within height old new (Back count) value place weight a b grew x w = none_ticks a b weight x
obeyed_order_within height old new (Show lo hi) value place weight a b grew x w = none_ticks a b weight x
obeyed_order_within height old new Where value place weight a b grew x w = none_ticks a b weight x

pub unwritten_order_within : (T : Type 0) (height : ℕ) (old new : Rewinding) (order : Order) (place weight a b : ℕ) → new.reached ≡ max old.reached new.attempt → OrderTicks {T = T} height old new order (Err WriteFault) a b
    → OrderWeighs height old.limit old.start order old.attempt old.reached place weight → Ticks a b weight
unwritten_order_within T height old new (Step count) place weight a b grew x w = obeyed_within height old new (old.attempt + count) place weight a b grew x w
unwritten_order_within T height old new (Back count) place weight a b grew x w = none_ticks a b weight x
unwritten_order_within T height old new (Show lo hi) place weight a b grew x w = none_ticks a b weight x
unwritten_order_within T height old new Where place weight a b grew x w = none_ticks a b weight x

pub failed_order_within : (T : Type 0) (height : ℕ) (old new : Rewinding) (order : Order) (place weight a b : ℕ) → OrderTicks {T = T} height old new order (Err NoMemory) a b
    → OrderWeighs height old.limit old.start order old.attempt old.reached place weight → Ticks a b weight
failed_order_within T height old new (Step count) place weight a b x w = failed_within height old new (old.attempt + count) place weight a b x w
failed_order_within T height old new (Back count) place weight a b x w = none_ticks a b weight x
failed_order_within T height old new (Show lo hi) place weight a b x w = none_ticks a b weight x
failed_order_within T height old new Where place weight a b x w = none_ticks a b weight x

-- scripts weigh something

record HasBetween (limit : ℕ) (start : List Base) (from to : ℕ) : Type 0 where
  first : List Base
  attempts : List Attempt
  last : List Base
  between : AreBetween limit start from to first attempts last
  there : IsVersion limit start to last

has_between : (limit : ℕ) (start : List Base) (from to : ℕ) (dna : List Base) → IsVersion limit start to dna → from ≤ to → HasBetween limit start from to
has_between limit start from to dna version order =
    let e : EarlierVersion limit start to dna from = earlier_version limit start to dna from version order in
    record { first = e.dna; attempts = e.attempts; last = dna; between = record { version = e.version; leads = e.leads; count = e.count }; there = version }

-- the version up to which a step makes all of them
record HasGreater (limit : ℕ) (start : List Base) (reached place : ℕ) : Type 0 where
  dna : List Base
  version : IsVersion limit start (max reached place) dna

has_greater : (limit : ℕ) (start : List Base) (reached place : ℕ) (a b : List Base) → IsVersion limit start reached a → IsVersion limit start place b → HasGreater limit start reached place
has_greater limit start reached place a b x y =
    elim (cases_lt reached place) [
      | inl less ↦ let is : place ≡ max reached place = omega (arith, less) in record { dna = b; version = subst (λ n. IsVersion limit start n b) is y }
      | inr past ↦ let is : reached ≡ max reached place = omega (arith, past) in record { dna = a; version = subst (λ n. IsVersion limit start n a) is x }
    ]

-- the attempt that ended a step, on the version up to which all were made
record HasTried (limit : ℕ) (dna : List Base) (stop : Option Stop) : Type 0 where
  more : List Attempt
  tried : LastTried limit dna stop more

has_tried : (limit : ℕ) (start : List Base) (asked place : ℕ) (dna last : List Base) (stop : Option Stop) → StopsBy limit dna asked place stop → (place < asked → dna ≡ last) → HasTried limit last stop
has_tried limit start asked place dna last None x same = record { more = []; tried = refl }
has_tried limit start asked place dna last (Some Limit) x same = record { more = []; tried = refl }
has_tried limit start asked place dna last (Some Finish) x same =
    record { more = x.2.attempt ∷ []; tried = (x.2.attempt, subst (λ d. IsAttempt d limit x.2.attempt) (same x.0) x.2.is, refl) }
has_tried limit start asked place dna last (Some TooLong) x same =
    record { more = x.2.attempt ∷ []; tried = (x.2.attempt, subst (λ d. IsAttempt d limit x.2.attempt) (same x.0) x.2.is, refl) }

follow_weighs : (height limit : ℕ) (d : List Base) (attempts : List Attempt) → Follow limit d attempts → (total : ℕ) × WeighTogether height d attempts total
follow_weighs height limit d [] x = (0, refl)
follow_weighs height limit d (attempt ∷ attempts) x =
    let first : (n : ℕ) × Weighs height d attempt n = has_weight height d limit attempt x.0 in
    let rest : (total : ℕ) × WeighTogether height (dna_behind d attempt.ending) attempts total = follow_weighs height limit (dna_behind d attempt.ending) attempts x.1 in
    (first.0 + rest.0, (first.0, rest.0, first.1, rest.1, refl))

reached_before : (limit : ℕ) (start : List Base) (asked place reached : ℕ) (stop : Option Stop) (last : List Base) → IsNearest limit start asked place stop → place < asked → IsVersion limit start reached last → reached ≤ most_attempts → reached ≤ place
reached_before limit start asked place reached stop last x short version few =
    elim (place_is_least limit start asked place stop x).3 [
      | inl is ↦ absurd (omega (arith, is, short))
      | inr why ↦ elim why [
        | inl is ↦ omega (arith, is, few)
        | inr end ↦ version_within limit start reached place last version end
      ]
    ]

step_weighs : (height limit : ℕ) (start : List Base) (asked place reached : ℕ) (stop : Option Stop) (last : List Base) → IsNearest limit start asked place stop → IsVersion limit start reached last → reached ≤ most_attempts
    → (weight : ℕ) × StepWeighs height limit start asked reached place weight
step_weighs height limit start asked place reached stop last x version few =
    let greater : HasGreater limit start reached place = has_greater limit start reached place last x.dna version x.version in
    let b : HasBetween limit start reached (max reached place) = has_between limit start reached (max reached place) greater.dna greater.version (omega arith) in
    let same : place < asked → x.dna ≡ b.last = λ short.
    let before : reached ≤ place = reached_before limit start asked place reached stop last x short version few in
    let is : max reached place ≡ place = omega (arith, before) in
    version_is_one limit start place x.dna b.last x.version (subst (λ n. IsVersion limit start n b.last) is b.there) in
    let tried : HasTried limit b.last stop = has_tried limit start asked place x.dna b.last stop x.stops same in
    let w : (total : ℕ) × WeighTogether height b.first (b.attempts ++ tried.more) total =
    follow_weighs height limit b.first (b.attempts ++ tried.more) (follow_chain limit b.first b.attempts tried.more b.last b.between.leads (follow_tried limit b.last stop tried.more tried.tried)) in
    (w.0, record { stop = stop; nearest = x; first = b.first; attempts = b.attempts; last = b.last; between = b.between; more = tried.more; tried = tried.tried; weigh = w.1 })

record HasOrderWeight (height limit : ℕ) (start : List Base) (order : Order) (old reached : ℕ) : Type 0 where
  new : ℕ
  dna : List Base
  version : IsVersion limit start new dna
  few : new ≤ most_attempts
  weight : ℕ
  weighs : OrderWeighs height limit start order old reached new weight

order_weighs : (height limit : ℕ) (start : List Base) (order : Order) (old reached : ℕ) (dna last : List Base) → old ≤ most_attempts → reached ≤ most_attempts → IsVersion limit start old dna → IsVersion limit start reached last
    → HasOrderWeight height limit start order old reached
order_weighs height limit start (Step count) old reached dna last few_old few version there =
    let m : HasMove limit start (Step count) old = has_move limit start (Step count) old dna few_old version in
    let w : (weight : ℕ) × StepWeighs height limit start (old + count) reached m.new weight = step_weighs height limit start (old + count) m.new reached m.stop last m.moves there few in
    record { new = m.new; dna = m.dna; version = m.version; few = m.few; weight = w.0; weighs = w.1 }
order_weighs height limit start (Back count) old reached dna last few_old few version there =
    let m : HasMove limit start (Back count) old = has_move limit start (Back count) old dna few_old version in
    record { new = m.new; dna = m.dna; version = m.version; few = m.few; weight = 0; weighs = (m.moves.0, refl) }
order_weighs height limit start (Show lo hi) old reached dna last few_old few version there =
    record { new = old; dna = dna; version = version; few = few_old; weight = 0; weighs = (refl, refl) }
order_weighs height limit start Where old reached dna last few_old few version there =
    record { new = old; dna = dna; version = version; few = few_old; weight = 0; weighs = (refl, refl) }

pub script_weighs : (height limit : ℕ) (start : List Base) (orders : List Order) (place reached : ℕ) (dna last : List Base) → place ≤ reached → reached ≤ most_attempts → IsVersion limit start place dna → IsVersion limit start reached last
    → (total : ℕ) × ScriptWeighs height limit start orders place reached total
script_weighs height limit start [] place reached dna last order few version there = (0, refl)
script_weighs height limit start (first ∷ orders) place reached dna last order few version there =
    let w : HasOrderWeight height limit start first place reached = order_weighs height limit start first place reached dna last (omega (arith, order, few)) few version there in
    let greater : HasGreater limit start reached w.new = has_greater limit start reached w.new last w.dna there w.version in
    let rest : (total : ℕ) × ScriptWeighs height limit start orders w.new (max reached w.new) total =
    script_weighs height limit start orders w.new (max reached w.new) w.dna greater.dna (omega arith) (let h = w.few in omega (arith, h, few)) w.version greater.version in
    (w.weight + rest.0, (w.new, w.weight, rest.0, w.weighs, rest.1, refl))

-- and only one thing

follow_weigh_once : (height limit : ℕ) (d : List Base) (xs ys : List Attempt) (m n : ℕ) → Follow limit d xs → Follow limit d ys → length xs ≤ length ys → WeighTogether height d xs m → WeighTogether height d ys n → m ≤ n
follow_weigh_once height limit d xs ys m n x y few v w =
    let front : (left : List Attempt) × (ys ≡ xs ++ left) = front_of limit d xs ys x y few in
    front_weighs height d xs front.0 m n v (subst (λ l. WeighTogether height d l n) front.1 w)

step_weighs_within : (height limit : ℕ) (start : List Base) (asked reached p q m n : ℕ) → StepWeighs height limit start asked reached p m → StepWeighs height limit start asked reached q n → (p ≡ q) × (m ≤ n)
step_weighs_within height limit start asked reached p q m n x y =
    let same : SamePlace p q x.stop y.stop = one_place limit start asked p q x.stop y.stop x.nearest y.nearest in
    let firsts : y.first ≡ x.first = version_is_one limit start reached y.first x.first y.between.version x.between.version in
    let xs : Follow limit x.first (x.attempts ++ x.more) = follow_chain limit x.first x.attempts x.more x.last x.between.leads (follow_tried limit x.last x.stop x.more x.tried) in
    let ys : Follow limit y.first (y.attempts ++ y.more) = follow_chain limit y.first y.attempts y.more y.last y.between.leads (follow_tried limit y.last y.stop y.more y.tried) in
    let last_x : length x.more ≡ tried_count x.stop = count_of_tried limit x.last x.stop x.more x.tried in
    let last_y : length y.more ≡ tried_count y.stop = count_of_tried limit y.last y.stop y.more y.tried in
    let stops : tried_count x.stop ≡ tried_count y.stop = ap tried_count same.stop in
    let places : p ≡ q = same.place in
    let few : length (x.attempts ++ x.more) ≤ length (y.attempts ++ y.more) = omega (arith, length-append x.attempts x.more, length-append y.attempts y.more, last_x, last_y, stops, places, x.between.count, y.between.count) in
    (places, follow_weigh_once height limit x.first (x.attempts ++ x.more) (y.attempts ++ y.more) m n xs (subst (λ d. Follow limit d (y.attempts ++ y.more)) firsts ys) few x.weigh (subst (λ d. WeighTogether height d (y.attempts ++ y.more) n) firsts y.weigh))

pub one_order_weight : (height limit : ℕ) (start : List Base) (order : Order) (old reached p q m n : ℕ) → OrderWeighs height limit start order old reached p m → OrderWeighs height limit start order old reached q n → (p ≡ q) × (m ≡ n)
one_order_weight height limit start (Step count) old reached p q m n x y =
    let there : (p ≡ q) × (m ≤ n) = step_weighs_within height limit start (old + count) reached p q m n x y in
    let back : (q ≡ p) × (n ≤ m) = step_weighs_within height limit start (old + count) reached q p n m y x in
    (there.0, omega (arith, there.1, back.1))
one_order_weight height limit start (Back count) old reached p q m n x y = (x.0 ∙ sym y.0, x.1 ∙ sym y.1)
one_order_weight height limit start (Show lo hi) old reached p q m n x y = (x.0 ∙ sym y.0, x.1 ∙ sym y.1)
one_order_weight height limit start Where old reached p q m n x y = (x.0 ∙ sym y.0, x.1 ∙ sym y.1)

pub one_script_weight : (height limit : ℕ) (start : List Base) (orders : List Order) (place reached m n : ℕ) → ScriptWeighs height limit start orders place reached m → ScriptWeighs height limit start orders place reached n → m ≡ n
one_script_weight height limit start [] place reached m n x y = x ∙ sym y
one_script_weight height limit start (order ∷ orders) place reached m n x y =
    let first : (x.0 ≡ y.0) × (x.1 ≡ y.1) = one_order_weight height limit start order place reached x.0 y.0 x.1 y.1 x.3 y.3 in
    let there : ScriptWeighs height limit start orders x.0 (max reached x.0) y.2 = subst (λ p. ScriptWeighs height limit start orders p (max reached p) y.2) (sym first.0) y.4 in
    let rest : x.2 ≡ y.2 = one_script_weight height limit start orders x.0 (max reached x.0) x.2 y.2 x.4 there in
    x.5 ∙ ap (λ w. w + x.2) first.1 ∙ ap (λ w. y.1 + w) rest ∙ sym y.5

-- an order weighs where it leads
pub one_order_place : (height limit : ℕ) (start : List Base) (order : Order) (old reached p q weight : ℕ) (text : List ℕ) → Obeys limit start order old p text → OrderWeighs height limit start order old reached q weight → p ≡ q
one_order_place height limit start (Step count) old reached p q weight text x w = (one_place limit start (old + count) p q x.stop w.stop x.moves w.nearest).place
one_order_place height limit start (Back count) old reached p q weight text x w = x.moves.0 ∙ sym w.0
one_order_place height limit start (Show lo hi) old reached p q weight text x w = x.moves.0 ∙ sym w.0
one_order_place height limit start Where old reached p q weight text x w = x.moves.0 ∙ sym w.0
