-- The bucket and the current pixel, in the words of the contest's chapter on images.
use Rattle.std.specs.Prelude.{ℕ, ◌*◌, ◌/◌, List, [], ◌∷◌, Option, Some, None, length, map, sum}
use Rattle.std.specs.List.{filter_map}
use Rattle.rna_code.specs.declared.acts.Ink.{Ink}
use Rattle.rna_code.specs.declared.acts.Ink.TheVariants.{Black, Red, Green, Yellow, Blue, Magenta, Cyan, White, Transparent, Opaque}
use Rattle.canvas.specs.Pixels.{Rgba}

-- red, green and blue
pub record Colour : Type 0 where
  pub red : ℕ
  pub green : ℕ
  pub blue : ℕ

abbrev pub rgb : ℕ → ℕ → ℕ → Colour
rgb r g b = record { red = r; green = g; blue = b }

-- the colour that an ink adds to the bucket
abbrev pub colour_of : Ink → Option Colour
colour_of Black = Some (rgb 0 0 0)
colour_of Red = Some (rgb 255 0 0)
colour_of Green = Some (rgb 0 255 0)
colour_of Yellow = Some (rgb 255 255 0)
colour_of Blue = Some (rgb 0 0 255)
colour_of Magenta = Some (rgb 255 0 255)
colour_of Cyan = Some (rgb 0 255 255)
colour_of White = Some (rgb 255 255 255)
colour_of Transparent = None
colour_of Opaque = None

-- the alpha that an ink adds to the bucket
abbrev pub alpha_of : Ink → Option ℕ
alpha_of Transparent = Some 0
alpha_of Opaque = Some 255
alpha_of _ = None

-- a bucket's colours
unfoldable pub colours : List Ink → List Colour
colours inks = filter_map colour_of inks

-- a bucket's alphas
unfoldable pub alphas : List Ink → List ℕ
alphas inks = filter_map alpha_of inks

-- the average, rounded down, or a default where there is nothing
abbrev pub average_or : ℕ → List ℕ → ℕ
average_or default [] = default
average_or default (x ∷ xs) = sum (x ∷ xs) / length (x ∷ xs)

-- the current pixel of a bucket
unfoldable pub current_pixel : List Ink → Rgba
current_pixel inks =
    let all = colours inks in
    let alpha = average_or 255 (alphas inks) in
    record {
      red = average_or 0 (map (λ c. c.red) all) * alpha / 255;
      green = average_or 0 (map (λ c. c.green) all) * alpha / 255;
      blue = average_or 0 (map (λ c. c.blue) all) * alpha / 255;
      alpha = alpha;
    }
