-- What the words of a line order.
use Rattle.std.specs.Prelude.{ℕ, ◌^◌, if◌then◌else◌, Option, Some, None, List, [], ◌∷◌, codes, option_map}
use Rattle.std.specs.List.{list_all}
use Rattle.std.specs.Str.{bytes_eq}
use Rattle.fuun_base.specs.declared.letters.Base.{Base}
use Rattle.fuun_base.specs.Decimals.{number_up_to}
use Rattle.fuun_base.specs.DnaFile.{bases}
use Rattle.fuun_base.specs.Letter.{is_letter}
use Rattle.session_orders.specs.declared.orders.Line.{Line}
use Rattle.session_orders.specs.declared.orders.Line.TheVariants.{Nothing, Ordered, Refused}
use Rattle.session_orders.specs.declared.orders.Order.{Order}
use Rattle.session_orders.specs.declared.orders.Order.TheVariants.{Step, Back, Where, Show, Pair, Rna, Match, Trace, Until as Seek}
use Rattle.session_orders.specs.declared.orders.Until.{Until}
use Rattle.session_orders.specs.declared.orders.Until.TheVariants.{NoMatch, Rna as NextRna, Front, Length}
use Rattle.session_orders.specs.Words.{before_comment, words}

-- the number that a word writes in decimal, where it is at most 2^40
abbrev pub number : List ℕ → Option ℕ
number word = number_up_to (2 ^ 40) word

-- the bases of a word of the letters I, C, F and P alone
abbrev pub bases_of : List ℕ → Option (List Base)
bases_of word = if list_all is_letter word then Some (bases word) else None

-- what may stand behind the words of an order

-- no word
abbrev pub alone : {A : Type 0} → A → List (List ℕ) → Option A
alone found [] = Some found
alone found (word ∷ more) = None

-- one number, or none, which means 1
abbrev pub count_of : List (List ℕ) → Option ℕ
count_of [] = Some 1
count_of (word ∷ []) = number word
count_of (word ∷ next ∷ more) = None

abbrev pub both_of : Option ℕ → Option ℕ → Option Order
both_of (Some lo) (Some hi) = Some (Show lo hi)
both_of (Some lo) None = None
both_of None hi = None

-- two numbers
abbrev pub range_of : List (List ℕ) → Option Order
range_of [] = None
range_of (lo ∷ []) = None
range_of (lo ∷ hi ∷ []) = both_of (number lo) (number hi)
range_of (lo ∷ hi ∷ next ∷ more) = None

-- one word of bases
abbrev pub front_of : List (List ℕ) → Option (List Base)
front_of [] = None
front_of (word ∷ []) = bases_of word
front_of (word ∷ next ∷ more) = None

-- the word `match`
abbrev pub no_match_of : List (List ℕ) → Option Until
no_match_of [] = None
no_match_of (word ∷ more) = if bytes_eq word (codes "match") then alone NoMatch more else None

-- what `until` seeks
abbrev pub until_of : List (List ℕ) → Option Until
until_of [] = None
until_of (word ∷ more) =
    if bytes_eq word (codes "no") then no_match_of more
    else if bytes_eq word (codes "rna") then alone NextRna more
    else if bytes_eq word (codes "front") then option_map Front (front_of more)
    else if bytes_eq word (codes "length") then option_map Length (count_of more)
    else None

-- the order of the first word and those behind it

abbrev pub simple_order_of : List ℕ → List (List ℕ) → Option Order
simple_order_of verb more =
    if bytes_eq verb (codes "step") then option_map Step (count_of more)
    else if bytes_eq verb (codes "back") then option_map Back (count_of more)
    else if bytes_eq verb (codes "where") then alone Where more
    else if bytes_eq verb (codes "show") then range_of more
    else if bytes_eq verb (codes "pair") then alone Pair more
    else if bytes_eq verb (codes "rna") then alone Rna more
    else if bytes_eq verb (codes "match") then alone Match more
    else if bytes_eq verb (codes "trace") then option_map Trace (count_of more)
    else None

abbrev pub order_of : List ℕ → List (List ℕ) → Option Order
order_of verb more = if bytes_eq verb (codes "until") then option_map Seek (until_of more) else simple_order_of verb more

-- what words say

abbrev pub said : Option Order → Line
said (Some order) = Ordered order
said None = Refused

abbrev pub said_by : List (List ℕ) → Line
said_by [] = Nothing
said_by (verb ∷ more) = said (order_of verb more)

-- what a line says
abbrev pub line_of : List ℕ → Line
line_of line = said_by (words (before_comment line))
