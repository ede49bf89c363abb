-- The sums of skips, in a line before which so many lines stand.
use Rattle.std.specs.Prelude.{ℕ, zero, suc, if◌then◌else◌, Bool, true, false, List, [], ◌∷◌, ◌++◌, Option, Some, None, Ok, Err, length}
use Rattle.std.specs.Borrow.{Bor}
use Rattle.std.specs.Option.{option_map_or}
use Rattle.source_items.specs.declared.lines.Factor.{Factor}
use Rattle.source_items.specs.declared.lines.Factor.TheVariants.{Number as Num}
use Rattle.source_tokens.specs.declared.words.Token.{Token}
use Rattle.source_tokens.specs.declared.words.Word.{Word}
use Rattle.source_tokens.specs.declared.words.Word.TheVariants.{Number, Name, Plus, Star}
use Rattle.source_text.specs.declared.faults.Faults.{Faults}
use Rattle.source_text.specs.declared.sums.OneFactor.{OneFactor}
use Rattle.source_text.specs.declared.sums.OneSum.{OneSum}
use Rattle.source_text.specs.Names.{Names, number_named}
use Rattle.source_text.specs.Reading.{Read, and_read, bad_name, both_faults, no_faults, number_faults}

-- a factor, and whether it serves
abbrev pub one_factor : Factor → Faults → OneFactor
one_factor factor faults = record { factor = factor; faults = faults }

-- a sum, and whether its factors serve
abbrev pub one_sum : List (List Factor) → Faults → OneSum
one_sum sum faults = record { sum = sum; faults = faults }

abbrev pub named : Option Factor → ℕ → OneFactor
named (Some factor) at = one_factor factor no_faults
named None at = one_factor (Num 0) (bad_name at)

-- `+` or `*` stands at the front: whether it is `+`, and what stands behind it
abbrev pub joint_by : Word → List Token → Option (Bool × List Token)
joint_by Plus rest = Some (true, rest)
joint_by Star rest = Some (false, rest)
joint_by word rest = None

abbrev pub joint : List Token → Option (Bool × List Token)
joint [] = None
joint (token ∷ rest) = joint_by token.word rest

abbrev pub seen_joint : Option (Bool × Bor (List Token)) → Option (Bool × List Token)
seen_joint None = None
seen_joint (Some found) = Some (found.0, found.1.now)

module _ (names : Names) (line : ℕ) where
  -- a number or a name
  abbrev pub factor_by : Word → ℕ → List Token → Read OneFactor
  factor_by (Number n) at rest = Ok (one_factor (Num n) (number_faults n at), rest)
  factor_by (Name id) at rest = Ok (named (number_named names line id) at, rest)
  factor_by word at rest = Err (suc (length rest))

  unfoldable pub factor : List Token → Read OneFactor
  factor [] = Err 0
  factor (token ∷ rest) = factor_by token.word token.at rest

  -- what stands behind the first factors of a sum: `*` and a factor of the last product, or `+` and the first of the next
  unfoldable pub sum_on : ℕ → List (List Factor) → List Factor → Faults → List Token → Read OneSum
  sum_on zero products last faults rest = Err (length rest)
  sum_on (suc most) products last faults rest =
      option_map_or {U = Read OneSum} (λ (found : Bool × List Token).
      and_read (factor found.1) (λ next left.
      sum_on most (if found.0 then products ++ last ∷ [] else products) ((if found.0 then [] else last) ++ next.factor ∷ []) (both_faults faults next.faults) left))
      (joint rest) (Ok (one_sum (products ++ last ∷ []) faults, rest))

  -- products with `+` between them, of factors with `*` between them
  unfoldable pub sum : List Token → Read OneSum
  sum tokens = and_read (factor tokens) (λ first left. sum_on (suc (length left)) [] (first.factor ∷ []) first.faults left)
