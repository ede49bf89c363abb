-- A list of bases that is looked for at a place of cells: it stands there whatever the target, or it can't, or that is not sure.
use Rattle.std.specs.Prelude.{◌≡◌, ◌≢◌, ℕ, ◌+◌, ◌<◌, ◌≤◌, Some, List, length, slice_get}
use Rattle.fuun_base.specs.declared.letters.Base.{Base}
use Rattle.sym_strand.specs.declared.cells.Cell.{Cell}
use Rattle.sym_strand.specs.declared.cells.Cell.TheVariants.{Known, Target}

-- all these cells are bases and equal s
pub record IsSure (s : List Base) (z : List Cell) (place : ℕ) : Type 0 where
  pub within : place + length s ≤ length z
  pub there : (k : ℕ) (b : Base) → slice_get s k ≡ Some b → slice_get z (place + k) ≡ Some (Known b)

-- one of these cells is a base and differs from its base of s
pub record IsOut (s : List Base) (z : List Cell) (place : ℕ) : Type 0 where
  pub at : ℕ
  pub sought : Base
  pub seen : Base
  pub asks : slice_get s at ≡ Some sought
  pub there : slice_get z (place + at) ≡ Some (Known seen)
  pub differ : seen ≢ sought

-- one of these cells is a place of the target, and each base among them equals its base of s
pub record IsUnsure (s : List Base) (z : List Cell) (place : ℕ) : Type 0 where
  pub within : place + length s ≤ length z
  pub at : ℕ
  pub inside : at < length s
  pub hole : ℕ
  pub there : slice_get z (place + at) ≡ Some (Target hole)
  pub agree : (k : ℕ) (b c : Base) → slice_get s k ≡ Some b → slice_get z (place + k) ≡ Some (Known c) → c ≡ b

-- s can't stand at any of the places from one on and before another
abbrev pub AreOut : List Base → List Cell → ℕ → ℕ → Type 0
AreOut s z from to = (place : ℕ) → from ≤ place → place < to → IsOut s z place

-- the first place at which s can stand is one at which it surely stands
pub record IsSureFirst (s : List Base) (z : List Cell) (from place : ℕ) : Type 0 where
  pub after : from ≤ place
  pub out : AreOut s z from place
  pub sure : IsSure s z place

-- the first place at which s can stand is one at which that is not sure
pub record IsUnsureFirst (s : List Base) (z : List Cell) (from place : ℕ) : Type 0 where
  pub after : from ≤ place
  pub out : AreOut s z from place
  pub unsure : IsUnsure s z place

-- s can't stand anywhere from a place on
abbrev pub IsOutEverywhere : List Base → List Cell → ℕ → Type 0
IsOutEverywhere s z from = (place : ℕ) → from ≤ place → place + length s ≤ length z → IsOut s z place
