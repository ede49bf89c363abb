-- What holds of scripts and of the versions.
use Rattle.std.specs.Prelude.{◌≡◌, ◌↔◌, ◌⊎◌, ℕ, ◌≤◌, Option, Some, List}
use Rattle.fuun_base.specs.declared.letters.Base.{Base}
use Rattle.rewinder.specs.declared.orders.Order.{Order}
use Rattle.rewinder.specs.declared.orders.Stop.{Stop}
use Rattle.rewinder.specs.Script.{IsLineOf, order_of}
use Rattle.rewinder.specs.Versions.{most_attempts, IsVersion, IsEnd}
use Rattle.rewinder.specs.Places.{IsNearest}
use Rattle.rewinder.specs.Texts.{Writes}
use Rattle.rewinder.specs.Weights.{ScriptWeighs}

-- the order that is found for a line is the one of which it is the line
abbrev pub OrderIsOfLine : Type 0
OrderIsOfLine = (line : List ℕ) (order : Order) → (order_of line ≡ Some order) ↔ IsLineOf line order

-- there is at most one version of a number
abbrev pub VersionIsOne : Type 0
VersionIsOne = (limit : ℕ) (start : List Base) (number : ℕ) (a b : List Base) → IsVersion limit start number a → IsVersion limit start number b → a ≡ b

-- a step comes to the least of the place that was asked for, the end, and the last place that there may be
abbrev pub PlaceIsLeast : Type 0
PlaceIsLeast = (limit : ℕ) (start : List Base) (asked place : ℕ) (stop : Option Stop) → IsNearest limit start asked place stop
    → (place ≤ asked) × (place ≤ most_attempts) × ((end : ℕ) → IsEnd limit start end → place ≤ end)
    × ((place ≡ asked) ⊎ ((place ≡ most_attempts) ⊎ IsEnd limit start place))

-- from each version orders lead somewhere, and write something
abbrev pub ScriptHasText : Type 0
ScriptHasText = (limit : ℕ) (start : List Base) (orders : List Order) (place : ℕ) (dna : List Base) → place ≤ most_attempts → IsVersion limit start place dna
    → (last : ℕ) × (text : List ℕ) × Writes limit start orders place last text

-- and only there, and only this
abbrev pub ScriptHasOneText : Type 0
ScriptHasOneText = (limit : ℕ) (start : List Base) (orders : List Order) (place : ℕ) (a b : ℕ) (s t : List ℕ)
    → Writes limit start orders place a s → Writes limit start orders place b t → (a ≡ b) × (s ≡ t)

-- orders weigh something together, where as many versions are known as there are
abbrev pub ScriptHasWeight : Type 0
ScriptHasWeight = (height limit : ℕ) (start : List Base) (orders : List Order) (place reached : ℕ) (dna last : List Base)
    → place ≤ reached → reached ≤ most_attempts → IsVersion limit start place dna → IsVersion limit start reached last
    → (total : ℕ) × ScriptWeighs height limit start orders place reached total

-- and only this
abbrev pub ScriptHasOneWeight : Type 0
ScriptHasOneWeight = (height limit : ℕ) (start : List Base) (orders : List Order) (place reached m n : ℕ)
    → ScriptWeighs height limit start orders place reached m → ScriptWeighs height limit start orders place reached n → m ≡ n
