-- Lengths as they are found: each is held at 2^63, and so is all that is made of it.
use Rattle.std.specs.Prelude.{◌≡◌, ℕ, ◌^◌, ◌≤◌, true, List, [], ◌∷◌, drop}
use Rattle.dna_items.specs.Held.{held}
use Rattle.source_items.specs.declared.lines.Line.{Line}
use Rattle.source_items.specs.Lines.{are_small, line_len}
use Rattle.source_code.specs.declared.settling.CodeError.{CodeError}
use Rattle.source_code.specs.declared.settling.CodeError.TheVariants.{BadNumber, TooLong, NoMemory}
use Rattle.source_code.specs.Lengths.{IsBig, IsLength}

-- the length of a line all of whose values are small, as it is found
pub record IsFound (behind : List ℕ) (line : Line) (found : ℕ) : Type 0 where
  pub own : ℕ
  pub is : IsLength behind line own
  pub small : are_small own behind line ≡ true
  pub as_held : found ≡ held own

-- held lengths of lines, each by those behind it, all of whose values are small
abbrev pub AreFound : List Line → List ℕ → Type 0
AreFound [] [] = Unit {0}
AreFound [] (own ∷ behind) = ⊥
AreFound (line ∷ lines) [] = ⊥
AreFound (line ∷ lines) (found ∷ behind) = IsFound behind line found × AreFound lines behind

-- no length is held short, and all of them have room: each line has this length and small values
abbrev pub Exact : List Line → List ℕ → Type 0
Exact [] [] = Unit {0}
Exact [] (own ∷ behind) = ⊥
Exact (line ∷ lines) [] = ⊥
Exact (line ∷ lines) (own ∷ behind) = (own ≡ line_len own behind line) × (are_small own behind line ≡ true) × (own ≤ 2 ^ 40) × Exact lines behind

-- the last line with a value of 2^63 or more, with the lengths that are found behind it
pub record IsFoundBig (lines : List Line) (index : ℕ) : Type 0 where
  pub line : Line
  pub later : List Line
  pub there : drop index lines ≡ line ∷ later
  pub behind : List ℕ
  pub found : AreFound later behind
  pub big : IsBig behind line

-- why no lengths are found
abbrev pub IsRefusal : List Line → CodeError → Type 0
IsRefusal lines (BadNumber index) = IsFoundBig lines index
IsRefusal lines TooLong = ⊥
IsRefusal lines NoMemory = Unit {0}
