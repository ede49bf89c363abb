-- What the lines of a script say.
use Rattle.std.specs.Prelude.{◌≡◌, ℕ, ◌+◌, ◌==◌, if◌then◌else◌, Option, Some, None, is_none, List, ◌++◌, codes, length, take, drop, position}
use Rattle.std.specs.List.{filter_map, position_from}
use Rattle.std.specs.Option.{option_map}
use Rattle.std.specs.Str.{bytes_eq}
use Rattle.fuun_base.specs.Lines.{lines}
use Rattle.rewinder.specs.declared.orders.Order.{Order}
use Rattle.rewinder.specs.declared.orders.Order.TheVariants.{Step, Back, Show, Where}
use Rattle.rewinder.specs.Numbers.{number}

-- the forms of a line, by the order that it gives

-- two numbers with a space between them
pub record IsRangeOf (text : List ℕ) (lo hi : ℕ) : Type 0 where
  pub first : List ℕ
  pub second : List ℕ
  pub whole : text ≡ first ++ (codes " " ++ second)
  pub from : number first ≡ Some lo
  pub to : number second ≡ Some hi

-- a word and a space, and then a number
pub record IsCountOf (word line : List ℕ) (count : ℕ) : Type 0 where
  pub text : List ℕ
  pub whole : line ≡ word ++ text
  pub number : number text ≡ Some count

abbrev pub IsLineOf : List ℕ → Order → Type 0
IsLineOf line (Step count) = IsCountOf (codes "step ") line count
IsLineOf line (Back count) = IsCountOf (codes "back ") line count
IsLineOf line (Show lo hi) = (text : List ℕ) × (line ≡ codes "show " ++ text) × IsRangeOf text lo hi
IsLineOf line Where = line ≡ codes "where"

-- the order of a line, found from its front

-- what stands behind a front, where the line begins so
abbrev pub behind : List ℕ → List ℕ → Option (List ℕ)
behind front line = if bytes_eq (take (length front) line) front then Some (drop (length front) line) else None

-- a range of two numbers, where there are two
abbrev pub both_of : Option ℕ → Option ℕ → Option Order
both_of (Some lo) (Some hi) = Some (Show lo hi)
both_of (Some lo) None = None
both_of None hi = None

-- the numbers round a space
abbrev pub range_at : List ℕ → Option ℕ → Option Order
range_at text None = None
range_at text (Some at) = both_of (number (take at text)) (number (drop (at + 1) text))

abbrev pub range_of : List ℕ → Option Order
range_of text = range_at text (position (λ byte. byte == 32) text)

-- what a text behind a word says, or what the line says where it does not begin with the word
abbrev pub said_by : Option (List ℕ) → (List ℕ → Option Order) → Option Order → Option Order
said_by (Some text) says other = says text
said_by None says other = other

abbrev pub where_of : List ℕ → Option Order
where_of line = if bytes_eq line (codes "where") then Some Where else None

abbrev pub show_of : List ℕ → Option Order
show_of line = said_by (behind (codes "show ") line) range_of (where_of line)

abbrev pub back_of : List ℕ → Option Order
back_of line = said_by (behind (codes "back ") line) (λ text. option_map Back (number text)) (show_of line)

abbrev pub order_of : List ℕ → Option Order
order_of line = said_by (behind (codes "step ") line) (λ text. option_map Step (number text)) (back_of line)

-- a script

-- the orders of a script, one a line
abbrev pub orders : List ℕ → List Order
orders bytes = filter_map order_of (lines bytes)

-- the first line, counted from 1, that gives no order
abbrev pub first_bad : List ℕ → Option ℕ
first_bad bytes = position_from (λ line. is_none (order_of line)) 1 (lines bytes)
