-- Lines as they are kept: one whose code is longer than a limit may be kept as a long line.
use Rattle.std.specs.Prelude.{◌≡◌, ◌⊎◌, ℕ, ◌<◌, List, [], ◌∷◌}
use Rattle.dna_items.specs.Held.{held}
use Rattle.source_items.specs.declared.lines.CountedSkip.{CountedSkip}
use Rattle.source_items.specs.declared.lines.Line.{Line}
use Rattle.source_items.specs.declared.lines.Line.TheVariants.{Long}
use Rattle.source_items.specs.Lines.{are_small, line_len}

-- the code of a line is longer than the limit whatever its numbers come to, and for its length and the sizes of its values the
-- long line stands as well
pub record IsHeldLong (limit : ℕ) (line long : Line) : Type 0 where
  pub skips : List CountedSkip
  pub len : ℕ
  pub is : long ≡ Long skips len
  pub past : (own : ℕ) (behind : List ℕ) → limit < line_len own behind line
  pub lens : (own : ℕ) (behind : List ℕ) → held (line_len own behind line) ≡ held (line_len own behind long)
  pub small : (own : ℕ) (behind : List ℕ) → are_small own behind line ≡ are_small own behind long

-- a line is kept as it is, or as a long line
abbrev pub IsHeld : ℕ → Line → Line → Type 0
IsHeld limit line kept = (kept ≡ line) ⊎ IsHeldLong limit line kept

-- each of the lines is kept, in turn
abbrev pub AreHeld : ℕ → List Line → List Line → Type 0
AreHeld limit [] [] = Unit {0}
AreHeld limit [] (one ∷ kept) = ⊥
AreHeld limit (line ∷ lines) [] = ⊥
AreHeld limit (line ∷ lines) (one ∷ kept) = IsHeld limit line one × AreHeld limit lines kept
