-- What lines are settled to.
use Rattle.std.specs.Prelude.{◌≡◌, ℕ, ◌<◌, ◌≤◌, List, ◌∷◌, Result, Ok, Err, drop}
use Rattle.fuun_base.specs.declared.letters.Base.{Base}
use Rattle.source_items.specs.declared.lines.Line.{Line}
use Rattle.source_items.specs.Values.{total}
use Rattle.source_code.specs.declared.settling.CodeError.{CodeError}
use Rattle.source_code.specs.declared.settling.CodeError.TheVariants.{BadNumber, TooLong, NoMemory}
use Rattle.source_code.specs.Lengths.{IsBig, Settles, dna}

-- the line of this index, counted from 0, is the last that has a value of 2^63 or more
pub record IsLastBig (lines : List Line) (index : ℕ) : Type 0 where
  pub line : Line
  pub later : List Line
  pub there : drop index lines ≡ line ∷ later
  pub behind : List ℕ
  pub settles : Settles later behind
  pub big : IsBig behind line

-- lines are settled to their codes, unless a value is too great, or else they are longer than the limit
abbrev pub IsAnswer : List Line → ℕ → Result (List Base) CodeError → Type 0
IsAnswer lines limit (Ok code) = (lengths : List ℕ) × Settles lines lengths × (total lengths ≤ limit) × (code ≡ dna lines lengths)
IsAnswer lines limit (Err (BadNumber index)) = IsLastBig lines index
IsAnswer lines limit (Err TooLong) = (lengths : List ℕ) × Settles lines lengths × (limit < total lengths)
IsAnswer lines limit (Err NoMemory) = ⊥
