-- What a text that is put leaves on a sink, whose bytes are told or not.
use Rattle.std.specs.Prelude.{◌≡◌, ℕ, List, ◌++◌, Option, Result, MatchResult}
use Rattle.std.specs.Option.{option_map}

-- told bytes with these behind them
abbrev pub appended : Option (List ℕ) → List ℕ → Option (List ℕ)
appended told bytes = option_map (λ before. before ++ bytes) told

-- some front of these bytes was appended, maybe all and maybe none
pub record PutsFront (old new : Option (List ℕ)) (bytes : List ℕ) : Type 0 where
  pub front : List ℕ
  pub rest : List ℕ
  pub whole : bytes ≡ front ++ rest
  pub put : new ≡ appended old front

-- at Ok these bytes were appended whole, and after an error a front of them
abbrev pub Puts : {T E : Type 0} → Result T E → Option (List ℕ) → Option (List ℕ) → List ℕ → Type 0
Puts result old new bytes = MatchResult result (λ _. new ≡ appended old bytes) (λ _. PutsFront old new bytes)
