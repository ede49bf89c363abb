-- Reading: what was read, and the tokens that are left; or how many tokens are left where the reading stops.
use Rattle.std.specs.Prelude.{ℕ, suc, ◌^◌, if◌then◌else◌, nat_lt, Bool, true, false, List, [], ◌∷◌, Option, Some, None, Result, Ok, Err, length, min}
use Rattle.std.specs.Borrow.{Bor}
use Rattle.source_tokens.specs.declared.words.Token.{Token}
use Rattle.source_tokens.specs.declared.words.Word.{Word}
use Rattle.source_tokens.specs.declared.words.Word.TheVariants.{Arrow, Equals, Colon, Semicolon, Comma, Plus, Star, Bar, OpenBracket, CloseBracket, OpenBrace, CloseBrace, Greater, Number}
use Rattle.source_text.specs.declared.faults.Counted.{Counted}
use Rattle.source_text.specs.declared.faults.Faults.{Faults}
use Rattle.source_text.specs.declared.signs.Sign.{Sign}
use Rattle.source_text.specs.declared.signs.Sign.TheVariants as sign

abbrev pub Read : Type 0 → Type 0
Read A = Result (A × List Token) ℕ

-- a reading that leaves a slice of tokens
abbrev pub seen : {A : Type 0} → Result (A × Bor (List Token)) ℕ → Read A
seen (Ok read) = Ok (read.0, read.1.now)
seen (Err left) = Err left

abbrev pub seen_rest : Result (Bor (List Token)) ℕ → Result (List Token) ℕ
seen_rest (Ok rest) = Ok rest.now
seen_rest (Err left) = Err left

-- one thing is read, and then another
abbrev pub and_read : {A B : Type 0} → Read A → (A → List Token → Read B) → Read B
and_read (Ok found) more = more found.0 found.1
and_read (Err left) more = Err left

-- of two forms the one that is read to its end, or else the one that is read furthest
abbrev pub either : {A : Type 0} → Result A ℕ → Result A ℕ → Result A ℕ
either (Ok a) b = Ok a
either (Err n) (Ok b) = Ok b
either (Err n) (Err m) = Err (min n m)

abbrev pub end_of : {A : Type 0} → A → List Token → Result A ℕ
end_of found [] = Ok found
end_of found (token ∷ left) = Err (suc (length left))

-- a thing is all that there is
abbrev pub to_end : {A : Type 0} → Read A → Result A ℕ
to_end (Ok found) = end_of found.0 found.1
to_end (Err left) = Err left

-- a word is a sign
abbrev pub is_sign : Sign → Word → Bool
is_sign sign.Arrow Arrow = true
is_sign sign.Arrow word = false
is_sign sign.Equals Equals = true
is_sign sign.Equals word = false
is_sign sign.Colon Colon = true
is_sign sign.Colon word = false
is_sign sign.Semicolon Semicolon = true
is_sign sign.Semicolon word = false
is_sign sign.Comma Comma = true
is_sign sign.Comma word = false
is_sign sign.Plus Plus = true
is_sign sign.Plus word = false
is_sign sign.Star Star = true
is_sign sign.Star word = false
is_sign sign.Bar Bar = true
is_sign sign.Bar word = false
is_sign sign.OpenBrace OpenBrace = true
is_sign sign.OpenBrace word = false
is_sign sign.OpenBracket OpenBracket = true
is_sign sign.OpenBracket word = false
is_sign sign.CloseBracket CloseBracket = true
is_sign sign.CloseBracket word = false
is_sign sign.CloseBrace CloseBrace = true
is_sign sign.CloseBrace word = false
is_sign sign.Greater Greater = true
is_sign sign.Greater word = false

-- a sign stands at the front
abbrev pub stands : Sign → List Token → Bool
stands sign [] = false
stands sign (token ∷ rest) = is_sign sign token.word

-- what stands behind the first token
abbrev pub behind_one : List Token → List Token
behind_one [] = []
behind_one (token ∷ rest) = rest

-- a sign is read
unfoldable pub behind : Sign → List Token → Result (List Token) ℕ
behind sign [] = Err 0
behind sign (token ∷ rest) = if is_sign sign token.word then Ok rest else Err (suc (length rest))

-- all tokens serve
abbrev pub no_faults : Faults
no_faults = record { name = None; number = None }

-- the earlier of two places
abbrev pub earlier : Option ℕ → Option ℕ → Option ℕ
earlier None b = b
earlier (Some n) None = Some n
earlier (Some n) (Some m) = Some (min n m)

-- what does not serve of two things
abbrev pub both_faults : Faults → Faults → Faults
both_faults a b = record { name = earlier a.name b.name; number = earlier a.number b.number }

abbrev pub bad_name : ℕ → Faults
bad_name at = record { name = Some at; number = None }

-- a number that is 2^63 or more as it is written
abbrev pub number_faults : ℕ → ℕ → Faults
number_faults n at = record { name = None; number = if nat_lt n (2 ^ 63) then None else Some at }

-- a number as it is written, and whether it serves
abbrev pub one_number : ℕ → ℕ → Counted
one_number n at = record { number = n; faults = number_faults n at }

abbrev pub number_by : Word → ℕ → List Token → Read Counted
number_by (Number n) at rest = Ok (one_number n at, rest)
number_by word at rest = Err (suc (length rest))

unfoldable pub number : List Token → Read Counted
number [] = Err 0
number (token ∷ rest) = number_by token.word token.at rest
