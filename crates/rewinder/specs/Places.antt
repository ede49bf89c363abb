-- Where orders lead. A place is the number of a version.
use Rattle.std.specs.Prelude.{◌≡◌, ℕ, ◌+◌, ◌-◌, ◌<◌, ◌≤◌, Option, Some, None, List}
use Rattle.fuun_base.specs.declared.letters.Base.{Base}
use Rattle.exec_loop.specs.Attempt as attempt
use Rattle.rewinder.specs.declared.orders.Order.{Order}
use Rattle.rewinder.specs.declared.orders.Order.TheVariants.{Step, Back, Show, Where}
use Rattle.rewinder.specs.declared.orders.Stop.{Stop}
use Rattle.rewinder.specs.declared.orders.Stop.TheVariants.{Limit, Finish, TooLong}
use Rattle.rewinder.specs.Versions.{most_attempts, IsVersion, EndsBy}

-- why a step comes to this place, where so many attempts were asked for: it is the one that was asked for, or the last
-- that there may be, or the attempt on this DNA gives no next one
abbrev pub StopsBy : ℕ → List Base → ℕ → ℕ → Option Stop → Type 0
StopsBy limit dna asked place None = place ≡ asked
StopsBy limit dna asked place (Some Limit) = (place < asked) × (place ≡ most_attempts)
StopsBy limit dna asked place (Some Finish) = (place < asked) × (place < most_attempts) × EndsBy limit dna attempt.Finished
StopsBy limit dna asked place (Some TooLong) = (place < asked) × (place < most_attempts) × EndsBy limit dna attempt.TooLong

-- the place that a step comes to, and why it stops short
pub record IsNearest (limit : ℕ) (start : List Base) (asked place : ℕ) (stop : Option Stop) : Type 0 where
  pub dna : List Base
  pub version : IsVersion limit start place dna
  pub most : place ≤ most_attempts
  pub stops : StopsBy limit dna asked place stop

-- where an order leads from a place
abbrev pub Moves : ℕ → List Base → Order → ℕ → ℕ → Option Stop → Type 0
Moves limit start (Step count) old new stop = IsNearest limit start (old + count) new stop
Moves limit start (Back count) old new stop = (new ≡ old - count) × (stop ≡ None)
Moves limit start (Show lo hi) old new stop = (new ≡ old) × (stop ≡ None)
Moves limit start Where old new stop = (new ≡ old) × (stop ≡ None)
