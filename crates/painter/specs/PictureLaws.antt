-- What holds of every act and of every list of commands.
use Rattle.std.specs.Prelude.{◌≡◌, ℕ, ◌≤◌, List, [], ◌∷◌, length}
use Rattle.fuun_base.specs.declared.letters.Base.{Base}
use Rattle.rna_code.specs.declared.acts.Act.{Act}
use Rattle.canvas.specs.Pixels.{IsInside, IsSquare, Rgba}
use Rattle.painter.specs.Picture.{Picture, Table, Does, Builds, start}

-- bitmaps of one side
abbrev pub AreSquare : ℕ → List (List Rgba) → Type 0
AreSquare side [] = Unit {0}
AreSquare side (bitmap ∷ rest) = IsSquare side bitmap × AreSquare side rest

-- a picture with 1 to `most` bitmaps of a side, and its position and mark on them
pub record IsPicture (side most : ℕ) (p : Picture) : Type 0 where
  pub nonempty : 1 ≤ side
  pub small : side ≤ 1024
  pub position : IsInside side p.at
  pub aim : IsInside side p.mark
  pub some : 1 ≤ length p.layers
  pub few : length p.layers ≤ most
  pub squares : AreSquare side p.layers

-- the start is a picture
abbrev pub StartIsPicture : Type 0
StartIsPicture = (side most : ℕ) → 1 ≤ side → side ≤ 1024 → 1 ≤ most → IsPicture side most (start side)

-- an act makes a picture of each picture
abbrev pub ActsAlways : Type 0
ActsAlways = (side most : ℕ) (act : Act) (p : Picture) → IsPicture side most p → (q : Picture) × (Does side most act p q × IsPicture side most q)

-- and no more than one
abbrev pub ActsOnce : Type 0
ActsOnce = (side most : ℕ) (act : Act) (p q r : Picture) → Does side most act p q → Does side most act p r → q ≡ r

-- commands build a picture from each picture
abbrev pub BuildsAlways : Type 0
BuildsAlways = (side most : ℕ) (table : Table) (rna : List (List Base)) (p : Picture) → IsPicture side most p → (q : Picture) × (Builds side most table rna p q × IsPicture side most q)

-- and no more than one
abbrev pub BuildsOnce : Type 0
BuildsOnce = (side most : ℕ) (table : Table) (rna : List (List Base)) (p q r : Picture) → Builds side most table rna p q → Builds side most table rna p r → q ≡ r
