-- What orders write.
use Rattle.std.specs.Prelude.{◌≡◌, ℕ, Option, Some, None, List, [], ◌∷◌, ◌++◌, codes, decimal, length, map, slice_range}
use Rattle.fuun_base.specs.declared.letters.Base.{Base}
use Rattle.fuun_base.specs.Letter.{letter_of}
use Rattle.rewinder.specs.declared.orders.Order.{Order}
use Rattle.rewinder.specs.declared.orders.Order.TheVariants.{Step, Back, Show, Where}
use Rattle.rewinder.specs.declared.orders.Stop.{Stop}
use Rattle.rewinder.specs.declared.orders.Stop.TheVariants.{Limit, Finish, TooLong}
use Rattle.rewinder.specs.Versions.{IsVersion}
use Rattle.rewinder.specs.Places.{Moves}

-- the word for why a step stopped short
abbrev pub stop_text : Option Stop → List ℕ
stop_text None = []
stop_text (Some Limit) = codes " limit"
stop_text (Some Finish) = codes " finish"
stop_text (Some TooLong) = codes " too long"

-- the line of a place, with the length of its DNA
abbrev pub place_line : ℕ → ℕ → Option Stop → List ℕ
place_line place len stop = codes "at " ++ (decimal place ++ (codes " " ++ (decimal len ++ (stop_text stop ++ codes "\n"))))

-- the letters from one place of a DNA to another, cut short at its end, and none where they are the other way round
abbrev pub range_line : List Base → ℕ → ℕ → List ℕ
range_line dna lo hi = map letter_of (slice_range dna lo hi) ++ codes "\n"

-- what an order writes of the place to which it led
abbrev pub order_text : Order → ℕ → List Base → Option Stop → List ℕ
order_text (Step count) place dna stop = place_line place (length dna) stop
order_text (Back count) place dna stop = place_line place (length dna) stop
order_text (Show lo hi) place dna stop = range_line dna lo hi
order_text Where place dna stop = place_line place (length dna) stop

-- an order leads from one place to another, and writes this
pub record Obeys (limit : ℕ) (start : List Base) (order : Order) (old new : ℕ) (text : List ℕ) : Type 0 where
  pub stop : Option Stop
  pub moves : Moves limit start order old new stop
  pub dna : List Base
  pub version : IsVersion limit start new dna
  pub is : text ≡ order_text order new dna stop

-- orders lead from one place to another, one after the other, and write this together
abbrev pub Writes : ℕ → List Base → List Order → ℕ → ℕ → List ℕ → Type 0
Writes limit start [] old new text = (new ≡ old) × (text ≡ [])
Writes limit start (order ∷ orders) old new text =
    (middle : ℕ) × (first : List ℕ) × (rest : List ℕ)
    × Obeys limit start order old middle first × Writes limit start orders middle new rest × (text ≡ first ++ rest)
