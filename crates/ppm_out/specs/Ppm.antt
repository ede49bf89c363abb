-- The file of a picture, in the raw form of Netpbm's PPM.
use Rattle.std.specs.Prelude.{ℕ, List, [], ◌∷◌, ◌++◌, codes, decimal, flat_map}
use Rattle.canvas.specs.Pixels.{Rgba}

-- the bytes of a pixel; its alpha is taken as 255
abbrev pub rgb_bytes : Rgba → List ℕ
rgb_bytes p = p.red ∷ p.green ∷ p.blue ∷ []

-- the first three lines: the kind of file, the side twice, and the highest value of a channel
abbrev pub header : ℕ → List ℕ
header side = codes "P6\n" ++ (decimal side ++ (codes " " ++ (decimal side ++ codes "\n255\n")))

-- the file of a bitmap: its header, then each pixel, rows from the north, each from the west
unfoldable pub ppm : ℕ → List Rgba → List ℕ
ppm side pixels = header side ++ flat_map rgb_bytes pixels
