-- The versions that a rewinder keeps.
use Rattle.std.specs.Prelude.{◌≡◌, ℕ, ◌-◌, ◌+◌, ◌^◌, ◌<◌, ◌≤◌, Option, Some, None, IfSome, List, [], ◌∷◌, ◌++◌, length, max, slice_index_or}
use Rattle.fuun_base.specs.declared.letters.Base.{Base}
use Rattle.exec_loop.specs.Attempt as attempt
use Rattle.exec_loop.specs.Attempt.{Attempt, IsAttempt, next_dna}
use Rattle.exec_loop.specs.Run.{Leads}
use Rattle.exec_loop.specs.State.{State}
use Rattle.exec_loop.specs.Weights.{TicksFor}
use Rattle.rewinder.specs.declared.orders.Stop.{Stop}
use Rattle.rewinder.specs.declared.orders.Stop.TheVariants.{Limit, Finish, TooLong}
use Rattle.rewinder.specs.Versions.{most_attempts, IsVersion, EndsBy}
use Rattle.rewinder.specs.Rewinding.{Rewinding}
use Rattle.rewinder.specs.Places.{IsNearest}
use Rattle.rewinder.specs.Weights.{LastTried, StepTicks}

-- the limit on lengths, the versions from the start on, and why there is none behind the last, where that is known
pub record History : Type 0 where
  pub limit : ℕ
  pub kept : List (List Base)
  pub stop : Option Stop

abbrev pub version : History → ℕ → List Base
version h number = slice_index_or h.kept number []

-- the number of the last version
abbrev pub reached : History → ℕ
reached h = length h.kept - 1

-- the attempt on this DNA ends for this reason
abbrev pub EndsFor : ℕ → List Base → Stop → Type 0
EndsFor limit dna Limit = ⊥
EndsFor limit dna Finish = EndsBy limit dna attempt.Finished
EndsFor limit dna TooLong = EndsBy limit dna attempt.TooLong

-- each version is that of its number
pub record IsHistory (h : History) : Type 0 where
  pub some : 1 ≤ h.limit
  pub most : h.limit ≤ 2 ^ 40
  pub one : 0 < length h.kept
  pub few : reached h ≤ most_attempts
  pub is : (number : ℕ) → number < length h.kept → IsVersion h.limit (version h 0) number (version h number)
  pub within : (number : ℕ) → number < length h.kept → length (version h number) ≤ h.limit
  pub stops : IfSome h.stop (EndsFor h.limit (version h (reached h)))

-- a rewinder at a version of a history
abbrev pub rewinding : History → ℕ → Rewinding
rewinding h attempt = record { start = version h 0; limit = h.limit; attempt = attempt; dna = version h attempt; reached = reached h }

-- growth

-- the attempt on this DNA gives a next one
pub record GoesOn (limit : ℕ) (dna next : List Base) : Type 0 where
  pub attempt : Attempt
  pub is : IsAttempt dna limit attempt
  pub gives : next_dna attempt.ending ≡ Some next

abbrev pub last_version : History → List Base
last_version h = version h (reached h)

-- the machine behind the last version
abbrev pub last_state : History → State
last_state h = record { dna = last_version h; limit = h.limit }

-- there is one version more, or it is known why there is none
pub data Grows (old new : History) : Type 0 where
  ByOne : (next : List Base) → GoesOn old.limit (last_version old) next → new ≡ record { limit = old.limit; kept = old.kept ++ next ∷ []; stop = None } → Grows old new
  ByStop : (stop : Stop) → EndsFor old.limit (last_version old) stop → new ≡ record { limit = old.limit; kept = old.kept; stop = Some stop } → Grows old new

-- the same versions are kept, and maybe more
pub record Keeps (old new : History) : Type 0 where
  pub limit : new.limit ≡ old.limit
  pub more : length old.kept ≤ length new.kept
  pub same : (number : ℕ) → number < length old.kept → version new number ≡ version old number

-- the same versions, and those that attempts behind them made
pub record Extends (old new : History) (attempts : List Attempt) : Type 0 where
  pub limit : new.limit ≡ old.limit
  pub added : List (List Base)
  pub kept : new.kept ≡ old.kept ++ added
  pub leads : Leads old.limit (last_version old) attempts (last_version new)
  pub count : length added ≡ length attempts

-- attempts were made behind the last version, and the one that ended them was maybe tried
pub record Makes (height : ℕ) (old new : History) (old_steps new_steps : ℕ) : Type 0 where
  pub attempts : List Attempt
  pub extends : Extends old new attempts
  pub more : List Attempt
  pub tried : LastTried old.limit (last_version new) new.stop more
  pub ticks : TicksFor height (last_version old) (attempts ++ more) old_steps new_steps

-- the version of a number was there; or it was made; or the attempts ended before it
pub data Reaches (height : ℕ) (old new : History) (number old_steps new_steps : ℕ) : Type 0 where
  There : number ≤ reached old → new ≡ old → new_steps ≡ old_steps → Reaches height old new number old_steps new_steps
  Here : reached old < number → Makes height old new old_steps new_steps → new.stop ≡ None → reached new ≡ number → Reaches height old new number old_steps new_steps
  Short : (stop : Stop) → Makes height old new old_steps new_steps → new.stop ≡ Some stop → reached new < number → Reaches height old new number old_steps new_steps

-- an attempt behind versions that were made got no memory
pub record FailsToReach (height : ℕ) (old new : History) (number old_steps new_steps : ℕ) : Type 0 where
  pub short : reached new < number
  pub attempts : List Attempt
  pub extends : Extends old new attempts
  pub attempt : Attempt
  pub is : IsAttempt (last_version new) old.limit attempt
  pub ticks : TicksFor height (last_version old) (attempts ++ attempt ∷ []) old_steps new_steps

-- a step from a version came to another one
pub record Comes (height : ℕ) (old new : History) (attempt count place : ℕ) (stop : Option Stop) (old_steps new_steps : ℕ) : Type 0 where
  pub nearest : IsNearest old.limit (version old 0) (attempt + count) place stop
  pub grew : reached new ≡ max (reached old) place
  pub ticks : StepTicks height (rewinding old attempt) (rewinding new place) (attempt + count) old_steps new_steps
  pub quiet : attempt + count ≤ reached old → new_steps ≡ old_steps
