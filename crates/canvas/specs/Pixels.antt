-- Pixels and the list of a bitmap's pixels, in the words of the contest's chapter on images.
use Rattle.std.specs.Prelude.{◌≡◌, ℕ, ◌+◌, ◌-◌, ◌*◌, ◌<◌, ◌≤◌, List, ◌++◌, length, slice_index_or, slice_set, replicate, take, drop}
use Rattle.canvas.specs.declared.pixel.Spot.{Spot}

-- a spot of a bitmap of this side
abbrev pub IsInside : ℕ → Spot → Type 0
IsInside side s = (s.x < side) × (s.y < side)

-- a pixel's red, green and blue, and its alpha
pub record Rgba : Type 0 where
  pub red : ℕ
  pub green : ℕ
  pub blue : ℕ
  pub alpha : ℕ

-- no channel of a pixel is above its alpha
abbrev pub IsPremultiplied : Rgba → Type 0
IsPremultiplied p = (p.red ≤ p.alpha) × (p.green ≤ p.alpha) × (p.blue ≤ p.alpha)

-- the pixel with all four 0
abbrev pub transparent : Rgba
transparent = record { red = 0; green = 0; blue = 0; alpha = 0 }

-- where the pixel at (x, y) stands in the list of a bitmap: rows from the north, each from the west
abbrev pub place_of : ℕ → ℕ → ℕ → ℕ
place_of side x y = y * side + x

-- the pixel at (x, y)
abbrev pub pixel_at : ℕ → List Rgba → ℕ → ℕ → Rgba
pixel_at side pixels x y = slice_index_or pixels (place_of side x y) transparent

-- a bitmap's pixels fill a square of this side, from 1 to 1024
pub record IsSquare (side : ℕ) (pixels : List Rgba) : Type 0 where
  pub nonempty : 1 ≤ side
  pub small : side ≤ 1024
  pub filled : length pixels ≡ side * side

-- the bitmap that is transparent everywhere
abbrev pub blank : ℕ → List Rgba
blank side = replicate (side * side) transparent

-- the bitmap with one pixel set
abbrev pub with_pixel : ℕ → List Rgba → ℕ → ℕ → Rgba → List Rgba
with_pixel side pixels x y p = slice_set pixels (place_of side x y) p

-- the pixels of a row, from the west
abbrev pub row_of : ℕ → List Rgba → ℕ → List Rgba
row_of side pixels y = take side (drop (y * side) pixels)

-- the bitmap with the pixels of a row from x = start to x = stop - 1 set
abbrev pub with_span : ℕ → List Rgba → ℕ → ℕ → ℕ → Rgba → List Rgba
with_span side pixels y start stop p = take (place_of side start y) pixels ++ (replicate (stop - start) p ++ drop (place_of side stop y) pixels)
