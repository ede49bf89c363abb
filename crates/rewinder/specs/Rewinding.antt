-- What is seen of a rewinder, and what an order makes of it.
use Rattle.std.specs.Prelude.{◌≡◌, ℕ, ◌^◌, ◌≤◌, max, Option, Result, Ok, Err, List, ◌∷◌, ◌++◌, length, OnOk}
use Rattle.fuun_base.specs.declared.letters.Base.{Base}
use Rattle.fuun_io.specs.Written.{appended, Puts, PutsFront}
use Rattle.rewinder.specs.declared.orders.Order.{Order}
use Rattle.rewinder.specs.declared.orders.RewindError.{RewindError}
use Rattle.rewinder.specs.declared.orders.RewindError.TheVariants.{WriteFault, NoMemory}
use Rattle.rewinder.specs.Versions.{most_attempts, IsVersion}
use Rattle.rewinder.specs.Texts.{Obeys, Writes}

-- the DNA at the start and the limit on lengths; the attempt in hand and the DNA there; and the greatest attempt so far
pub record Rewinding : Type 0 where
  pub start : List Base
  pub limit : ℕ
  pub attempt : ℕ
  pub dna : List Base
  pub reached : ℕ

-- the DNA is the version of the attempt
pub record IsRewinding (r : Rewinding) : Type 0 where
  pub some : 1 ≤ r.limit
  pub most : r.limit ≤ 2 ^ 40
  pub version : IsVersion r.limit r.start r.attempt r.dna
  pub within : length r.dna ≤ r.limit
  pub behind : r.attempt ≤ r.reached
  pub few : r.reached ≤ most_attempts

-- the version of a number exists
pub record HasVersion (r : Rewinding) (number : ℕ) : Type 0 where
  pub dna : List Base
  pub version : IsVersion r.limit r.start number dna
  pub within : length dna ≤ r.limit

-- each version up to that of the greatest attempt so far exists
abbrev pub HasVersions : Rewinding → Type 0
HasVersions r = (number : ℕ) → number ≤ r.reached → HasVersion r number

-- the order was obeyed, and this is what it writes
pub record IsObeyed (old new : Rewinding) (order : Order) (text : List ℕ) : Type 0 where
  pub obeys : Obeys old.limit old.start order old.attempt new.attempt text
  pub reached : new.reached ≡ max old.reached new.attempt

-- the attempt and its DNA are as before
pub record IsRefused (old new : Rewinding) : Type 0 where
  pub attempt : new.attempt ≡ old.attempt
  pub dna : new.dna ≡ old.dna
  pub reached : old.reached ≤ new.reached

-- what each answer to an order leaves
abbrev pub Commanded : {T : Type 0} → Rewinding → Rewinding → Order → Result T RewindError → Option (List ℕ) → Option (List ℕ) → Type 0
Commanded old new order (Ok value) told now = (text : List ℕ) × IsObeyed old new order text × (now ≡ appended told text)
Commanded old new order (Err WriteFault) told now = (text : List ℕ) × IsObeyed old new order text × PutsFront told now text
Commanded old new order (Err NoMemory) told now = IsRefused old new × (now ≡ told)

-- what orders write was put: all of it at Ok, and then they led to the attempt in hand, and else a front of it
pub record AllCommanded {T E : Type 0} (old new : Rewinding) (orders : List Order) (result : Result T E) (told now : Option (List ℕ)) : Type 0 where
  pub last : ℕ
  pub text : List ℕ
  pub writes : Writes old.limit old.start orders old.attempt last text
  pub puts : Puts result told now text
  pub led : OnOk result (new.attempt ≡ last)

-- an order was answered with an error: those before it had been obeyed, and the text of those was put
pub record BrokeOff {T : Type 0} (old new : Rewinding) (orders : List Order) (result : Result T RewindError) (told now : Option (List ℕ)) : Type 0 where
  pub before : List Order
  pub order : Order
  pub later : List Order
  pub whole : orders ≡ before ++ order ∷ later
  pub middle : Rewinding
  pub start : middle.start ≡ old.start
  pub limit : middle.limit ≡ old.limit
  pub known : IsRewinding middle
  pub rises : old.reached ≤ middle.reached
  pub text : List ℕ
  pub writes : Writes old.limit old.start before old.attempt middle.attempt text
  pub broke : Commanded middle new order result (appended told text) now
