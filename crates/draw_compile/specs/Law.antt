-- What a DNA that draws a picture does.
use Rattle.std.specs.Prelude.{◌≡◌, ℕ, ◌<◌, ◌≤◌, List, length}
use Rattle.fuun_base.specs.declared.letters.Base.{Base}
use Rattle.rna_code.specs.declared.profile.Profile.TheVariants.{Plain}
use Rattle.rna_code.specs.Commands.{act_of}
use Rattle.canvas.specs.Pixels.{Rgba, pixel_at}
use Rattle.layers.specs.Layers.{top_of}
use Rattle.painter.specs.Picture.{Picture, Builds, start}
use Rattle.exec_loop.specs.declared.machine.RunEnd.TheVariants.{Finished}
use Rattle.exec_loop.specs.Run.{Run, IsRun}
use Rattle.picture_in.specs.Pixmap.{Rgb, IsPicture, rgb_at}
use Rattle.draw_compile.specs.Drawing.{drawing}

-- a pixel with alpha 255
abbrev pub opaque : Rgb → Rgba
opaque p = record { red = p.0; green = p.1; blue = p.2; alpha = 255 }

-- each spot of a bitmap of 600 by 600 has the picture's pixel there
abbrev pub Shows : List Rgba → List Rgb → Type 0
Shows bitmap picture = (x y : ℕ) → x < 600 → y < 600 → pixel_at 600 bitmap x y ≡ opaque (rgb_at picture x y)

-- commands build some picture in the plain profile, and each that they build shows this one
pub record BuildsPicture (rna : List (List Base)) (picture : List Rgb) : Type 0 where
  pub built : Picture
  pub builds : Builds 600 10 (act_of Plain) rna (start 600) built
  pub shows : (other : Picture) → Builds 600 10 (act_of Plain) rna (start 600) other → Shows (top_of other.layers) picture

-- a DNA has a run of one attempt at most, and in each such run it is used up in one attempt and its RNA builds the picture
pub record RunDraws (dna : List Base) (limit : ℕ) (picture : List Rgb) : Type 0 where
  pub run : Run
  pub is : IsRun dna 1 limit run
  pub ends : (other : Run) → IsRun dna 1 limit other → other.end ≡ Finished 1
  pub draws : (other : Run) → IsRun dna 1 limit other → BuildsPicture other.rna picture

-- under every limit that the DNA is within, its run draws the picture
abbrev pub Draws : List Base → List Rgb → Type 0
Draws dna picture = (limit : ℕ) → length dna ≤ limit → RunDraws dna limit picture

-- the DNA of each picture draws it
abbrev pub DrawingDraws : Type 0
DrawingDraws = (picture : List Rgb) → IsPicture picture → Draws (drawing picture) picture
