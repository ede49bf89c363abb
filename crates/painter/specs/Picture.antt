-- The picture and what a command does to it, in the words of the contest's chapter on images.
use Rattle.std.specs.Prelude.{◌≡◌, ℕ, ◌+◌, ◌-◌, ◌%◌, List, [], ◌∷◌, ◌++◌, Option, Some, None}
use Rattle.fuun_base.specs.declared.letters.Base.{Base}
use Rattle.rna_code.specs.declared.acts.Ink.{Ink}
use Rattle.rna_code.specs.declared.acts.Act.{Act}
use Rattle.rna_code.specs.declared.acts.Act.TheVariants.{Add, EmptyBucket, Move, TurnLeft, TurnRight, Mark, Line, Fill, AddLayer, CopyLayer, Compose, Clip}
use Rattle.canvas.specs.declared.pixel.Spot.{Spot}
use Rattle.canvas.specs.Pixels.{Rgba, blank}
use Rattle.canvas.specs.Buckets.{current_pixel}
use Rattle.line_draw.specs.Lines.{IsLine}
use Rattle.flood.specs.Region.{IsFill}
use Rattle.layers.specs.Layers.{top_of, with_clipped, with_composed, with_copy, with_layer}
use Rattle.layers.specs.Lending.{with_top}
use Rattle.painter.specs.declared.direction.Direction.{Direction}
use Rattle.painter.specs.declared.direction.Direction.TheVariants.{North, East, South, West}

-- the bucket, the position, the mark, the direction, and the layers, the top one first
pub record Picture : Type 0 where
  pub bucket : List Ink
  pub at : Spot
  pub mark : Spot
  pub facing : Direction
  pub layers : List (List Rgba)

-- the spot in the north-west
abbrev pub origin : Spot
origin = record { x = 0; y = 0 }

-- what a picture is before the first command
abbrev pub start : ℕ → Picture
start side = record { bucket = []; at = origin; mark = origin; facing = East; layers = blank side ∷ [] }

-- one pixel further, round the edges
abbrev pub moved : ℕ → Direction → Spot → Spot
moved side North s = record { x = s.x; y = (s.y + side - 1) % side }
moved side East s = record { x = (s.x + 1) % side; y = s.y }
moved side South s = record { x = s.x; y = (s.y + 1) % side }
moved side West s = record { x = (s.x + side - 1) % side; y = s.y }

-- a quarter turn counter-clockwise
abbrev pub left_of : Direction → Direction
left_of North = West
left_of East = North
left_of South = East
left_of West = South

-- a quarter turn clockwise
abbrev pub right_of : Direction → Direction
right_of North = East
right_of East = South
right_of South = West
right_of West = North

-- only the top bitmap is drawn on, as this says of it before and after
pub record IsDrawn (p q : Picture) (how : List Rgba → List Rgba → Type 0) : Type 0 where
  pub top : how (top_of p.layers) (top_of q.layers)
  pub others : q ≡ record p { layers = with_top p.layers (top_of q.layers) }

-- what an act makes of a picture with bitmaps of this side and room for `most` of them
abbrev pub Does : ℕ → ℕ → Act → Picture → Picture → Type 0
Does side most (Add ink) p q = q ≡ record p { bucket = p.bucket ++ ink ∷ [] }
Does side most EmptyBucket p q = q ≡ record p { bucket = [] }
Does side most Move p q = q ≡ record p { at = moved side p.facing p.at }
Does side most TurnLeft p q = q ≡ record p { facing = left_of p.facing }
Does side most TurnRight p q = q ≡ record p { facing = right_of p.facing }
Does side most Mark p q = q ≡ record p { mark = p.at }
Does side most Line p q = IsDrawn p q (λ was now. IsLine side was p.at p.mark (current_pixel p.bucket) now)
Does side most Fill p q = IsDrawn p q (λ was now. IsFill side was p.at (current_pixel p.bucket) now)
Does side most AddLayer p q = q ≡ record p { layers = with_layer side most p.layers }
Does side most CopyLayer p q = q ≡ record p { layers = with_copy most p.layers }
Does side most Compose p q = q ≡ record p { layers = with_composed p.layers }
Does side most Clip p q = q ≡ record p { layers = with_clipped p.layers }

-- what a row of a table makes of a picture; without a row it stays
abbrev pub DoesIfAny : ℕ → ℕ → Option Act → Picture → Picture → Type 0
DoesIfAny side most None p q = q ≡ p
DoesIfAny side most (Some act) p q = Does side most act p q

-- a table says what each command does, if anything
abbrev pub Table : Type 0
Table = List Base → Option Act

-- what a command makes of a picture
abbrev pub Acts : ℕ → ℕ → Table → List Base → Picture → Picture → Type 0
Acts side most table command p q = DoesIfAny side most (table command) p q

-- what commands make of a picture, one after another
abbrev pub Builds : ℕ → ℕ → Table → List (List Base) → Picture → Picture → Type 0
Builds side most table [] p q = q ≡ p
Builds side most table (command ∷ rest) p q = (r : Picture) × (Acts side most table command p r × Builds side most table rest r q)
