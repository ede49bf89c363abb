-- How long the codes of lines are, from the last line up.
use Rattle.std.specs.Prelude.{◌≡◌, ℕ, ◌≤◌, true, false, List, [], ◌∷◌, ◌++◌}
use Rattle.fuun_base.specs.declared.letters.Base.{Base}
use Rattle.source_items.specs.declared.lines.Line.{Line}
use Rattle.source_items.specs.Lines.{are_small, line_code, line_len}

-- the length of a line's code with lines of these lengths behind it: the least number that is the length of the code in which
-- it stands for the line's own length
pub record IsLength (behind : List ℕ) (line : Line) (own : ℕ) : Type 0 where
  pub here : own ≡ line_len own behind line
  pub least : (n : ℕ) → n ≡ line_len n behind line → own ≤ n

-- the lengths of lines
abbrev pub AreLengths : List Line → List ℕ → Type 0
AreLengths [] [] = Unit {0}
AreLengths [] (own ∷ behind) = ⊥
AreLengths (line ∷ lines) [] = ⊥
AreLengths (line ∷ lines) (own ∷ behind) = IsLength behind line own × AreLengths lines behind

-- some value of a line is 2^63 or more
pub record IsBig (behind : List ℕ) (line : Line) : Type 0 where
  pub own : ℕ
  pub is : IsLength behind line own
  pub big : are_small own behind line ≡ false

-- the values of all sums in lines of these lengths are below 2^63
abbrev pub AreSmall : List Line → List ℕ → Type 0
AreSmall [] lengths = Unit {0}
AreSmall (line ∷ lines) [] = ⊥
AreSmall (line ∷ lines) (own ∷ behind) = (are_small own behind line ≡ true) × AreSmall lines behind

-- the codes of lines of these lengths, one after the other
abbrev pub dna : List Line → List ℕ → List Base
dna [] lengths = []
dna (line ∷ lines) [] = []
dna (line ∷ lines) (own ∷ behind) = line_code own behind line ++ dna lines behind

-- the lengths of lines all of whose values are small
pub record Settles (lines : List Line) (lengths : List ℕ) : Type 0 where
  pub are : AreLengths lines lengths
  pub small : AreSmall lines lengths
