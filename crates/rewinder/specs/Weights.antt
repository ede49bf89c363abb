-- How many steps orders may make, by the weights of the attempts that they make.
use Rattle.std.specs.Prelude.{◌≡◌, ℕ, ◌+◌, ◌-◌, ◌<◌, ◌≤◌, max, Option, Some, None, Result, Ok, Err, List, [], ◌∷◌, ◌++◌, length}
use Rattle.fuun_base.specs.declared.letters.Base.{Base}
use Rattle.fuun_base.specs.Ticks.{Ticks}
use Rattle.exec_loop.specs.Attempt.{Attempt, IsAttempt}
use Rattle.exec_loop.specs.Run.{Leads}
use Rattle.exec_loop.specs.Weights.{WeighTogether, TicksFor}
use Rattle.rewinder.specs.declared.orders.Order.{Order}
use Rattle.rewinder.specs.declared.orders.Order.TheVariants.{Step, Back, Show, Where}
use Rattle.rewinder.specs.declared.orders.RewindError.{RewindError}
use Rattle.rewinder.specs.declared.orders.RewindError.TheVariants.{WriteFault, NoMemory}
use Rattle.rewinder.specs.declared.orders.Stop.{Stop}
use Rattle.rewinder.specs.declared.orders.Stop.TheVariants.{Limit, Finish, TooLong}
use Rattle.rewinder.specs.Versions.{most_attempts, IsVersion}
use Rattle.rewinder.specs.Places.{IsNearest}
use Rattle.rewinder.specs.Rewinding.{Rewinding}

-- the attempts from one version on to another
pub record AreBetween (limit : ℕ) (start : List Base) (from to : ℕ) (first : List Base) (attempts : List Attempt) (last : List Base) : Type 0 where
  pub version : IsVersion limit start from first
  pub leads : Leads limit first attempts last
  pub count : from + length attempts ≡ to

-- the attempt that ended a step: there is one where the step stopped for it
abbrev pub LastTried : ℕ → List Base → Option Stop → List Attempt → Type 0
LastTried limit dna None more = more ≡ []
LastTried limit dna (Some Limit) more = more ≡ []
LastTried limit dna (Some Finish) more = (attempt : Attempt) × IsAttempt dna limit attempt × (more ≡ attempt ∷ [])
LastTried limit dna (Some TooLong) more = (attempt : Attempt) × IsAttempt dna limit attempt × (more ≡ attempt ∷ [])

-- the steps of an order that was obeyed: those of the attempts from the greatest one before on to that after, and of the one that ended it
pub record StepTicks (height : ℕ) (old new : Rewinding) (asked : ℕ) (old_steps new_steps : ℕ) : Type 0 where
  pub stop : Option Stop
  pub nearest : IsNearest old.limit old.start asked new.attempt stop
  pub first : List Base
  pub attempts : List Attempt
  pub last : List Base
  pub between : AreBetween old.limit old.start old.reached new.reached first attempts last
  pub more : List Attempt
  pub tried : LastTried old.limit last stop more
  pub ticks : TicksFor height first (attempts ++ more) old_steps new_steps

-- the steps of an order that got no memory: those of the attempts that were made, and of the one in hand
pub record FailedTicks (height : ℕ) (old new : Rewinding) (asked : ℕ) (old_steps new_steps : ℕ) : Type 0 where
  pub short : new.reached < asked
  pub few : new.reached < most_attempts
  pub first : List Base
  pub attempts : List Attempt
  pub last : List Base
  pub between : AreBetween old.limit old.start old.reached new.reached first attempts last
  pub attempt : Attempt
  pub is : IsAttempt last old.limit attempt
  pub ticks : TicksFor height first (attempts ++ attempt ∷ []) old_steps new_steps

abbrev pub TicksByAnswer : {T : Type 0} → ℕ → Rewinding → Rewinding → ℕ → Result T RewindError → ℕ → ℕ → Type 0
TicksByAnswer height old new asked (Ok value) old_steps new_steps = StepTicks height old new asked old_steps new_steps
TicksByAnswer height old new asked (Err WriteFault) old_steps new_steps = StepTicks height old new asked old_steps new_steps
TicksByAnswer height old new asked (Err NoMemory) old_steps new_steps = FailedTicks height old new asked old_steps new_steps

-- only a step makes attempts
abbrev pub OrderTicks : {T : Type 0} → ℕ → Rewinding → Rewinding → Order → Result T RewindError → ℕ → ℕ → Type 0
OrderTicks height old new (Step count) result old_steps new_steps = TicksByAnswer height old new (old.attempt + count) result old_steps new_steps
OrderTicks height old new (Back count) result old_steps new_steps = new_steps ≡ old_steps
OrderTicks height old new (Show lo hi) result old_steps new_steps = new_steps ≡ old_steps
OrderTicks height old new Where result old_steps new_steps = new_steps ≡ old_steps

-- an order stays within the versions that there are
abbrev pub IsKnown : Rewinding → Order → Type 0
IsKnown r (Step count) = r.attempt + count ≤ r.reached
IsKnown r (Back count) = Unit {0}
IsKnown r (Show lo hi) = Unit {0}
IsKnown r Where = Unit {0}

-- what an order weighs that leads from a place to another, where so many versions are known

pub record StepWeighs (height limit : ℕ) (start : List Base) (asked reached place weight : ℕ) : Type 0 where
  pub stop : Option Stop
  pub nearest : IsNearest limit start asked place stop
  pub first : List Base
  pub attempts : List Attempt
  pub last : List Base
  pub between : AreBetween limit start reached (max reached place) first attempts last
  pub more : List Attempt
  pub tried : LastTried limit last stop more
  pub weigh : WeighTogether height first (attempts ++ more) weight

abbrev pub OrderWeighs : ℕ → ℕ → List Base → Order → ℕ → ℕ → ℕ → ℕ → Type 0
OrderWeighs height limit start (Step count) old reached new weight = StepWeighs height limit start (old + count) reached new weight
OrderWeighs height limit start (Back count) old reached new weight = (new ≡ old - count) × (weight ≡ 0)
OrderWeighs height limit start (Show lo hi) old reached new weight = (new ≡ old) × (weight ≡ 0)
OrderWeighs height limit start Where old reached new weight = (new ≡ old) × (weight ≡ 0)

-- what orders weigh together, from a place on and where so many versions are known
abbrev pub ScriptWeighs : ℕ → ℕ → List Base → List Order → ℕ → ℕ → ℕ → Type 0
ScriptWeighs height limit start [] old reached total = total ≡ 0
ScriptWeighs height limit start (order ∷ orders) old reached total =
    (middle : ℕ) × (weight : ℕ) × (rest : ℕ)
    × OrderWeighs height limit start order old reached middle weight
    × ScriptWeighs height limit start orders middle (max reached middle) rest × (total ≡ weight + rest)

-- at most as many steps as the orders weigh together
abbrev pub TicksForScript : ℕ → Rewinding → List Order → ℕ → ℕ → Type 0
TicksForScript height r orders old new =
    (total : ℕ) → ScriptWeighs height r.limit r.start orders r.attempt r.reached total → Ticks old new total
