-- A picture of 600 by 600 pixels, and the file that it stands in.
use Rattle.std.specs.Prelude.{◌≡◌, ℕ, ◌+◌, ◌*◌, ◌≤◌, nat_le, if◌then◌else◌, Option, Some, None, List, [], ◌∷◌, length, take, slice_index, slice_index_or}
use Rattle.std.specs.Option.{option_and_then, option_map}
use Rattle.picture_in.specs.Header.{behind_header}

-- the red, the green and the blue of a pixel
abbrev pub Rgb : Type 0
Rgb = ℕ × ℕ × ℕ

abbrev pub black : Rgb
black = (0, 0, 0)

-- the pixel at (x, y): rows from the north, each from the west
abbrev pub rgb_at : List Rgb → ℕ → ℕ → Rgb
rgb_at picture x y = slice_index_or picture (y * 600 + x) black

-- the pixels of bytes, three bytes each
abbrev pub pixels_of : List ℕ → List Rgb
pixels_of [] = []
pixels_of (red ∷ []) = []
pixels_of (red ∷ green ∷ []) = []
pixels_of (red ∷ green ∷ blue ∷ rest) = (red, green, blue) ∷ pixels_of rest

-- so many bytes in front, where there are as many
unfoldable pub front : ℕ → List ℕ → Option (List ℕ)
front count bytes = if nat_le count (length bytes) then Some (take count bytes) else None

-- the bytes of the pixels, where all of them stand behind a header
unfoldable pub pixel_bytes : List ℕ → Option (List ℕ)
pixel_bytes bytes = option_and_then (front 1080000) (behind_header bytes)

-- the picture with which bytes begin, if they begin with one
abbrev pub picture_of : List ℕ → Option (List Rgb)
picture_of bytes = option_map pixels_of (pixel_bytes bytes)

-- no channel is above 255
abbrev pub IsBytes : Rgb → Type 0
IsBytes p = (p.0 ≤ 255) × (p.1 ≤ 255) × (p.2 ≤ 255)

-- 360,000 pixels, each of three bytes
pub record IsPicture (picture : List Rgb) : Type 0 where
  pub filled : length picture ≡ 360000
  pub small : (place : ℕ) → IsBytes (slice_index_or picture place black)

-- the bytes of 360,000 pixels
pub record ArePixels (bytes : List ℕ) : Type 0 where
  pub filled : length bytes ≡ 1080000
  pub small : (place : ℕ) → slice_index bytes place ≤ 255
