-- Layers, and how the two top ones become one, in the words of the contest's chapter on images.
use Rattle.std.specs.Prelude.{ℕ, ◌+◌, ◌-◌, ◌*◌, ◌/◌, List, [], ◌∷◌, length, nat_lt, if◌then◌else◌}
use Rattle.canvas.specs.Pixels.{Rgba, blank}

-- a pixel of the top bitmap over that of the next: each channel shows through what the top's alpha leaves
unfoldable pub over : Rgba → Rgba → Rgba
over top next =
    record {
      red = top.red + next.red * (255 - top.alpha) / 255;
      green = top.green + next.green * (255 - top.alpha) / 255;
      blue = top.blue + next.blue * (255 - top.alpha) / 255;
      alpha = top.alpha + next.alpha * (255 - top.alpha) / 255;
    }

-- the next bitmap's pixel, each channel lessened by the top's alpha
unfoldable pub clipped : Rgba → Rgba → Rgba
clipped top next =
    record {
      red = next.red * top.alpha / 255;
      green = next.green * top.alpha / 255;
      blue = next.blue * top.alpha / 255;
      alpha = next.alpha * top.alpha / 255;
    }

-- two bitmaps made one, place by place
abbrev pub each_place : (Rgba → Rgba → Rgba) → List Rgba → List Rgba → List Rgba
each_place f [] next = []
each_place f (p ∷ top) [] = []
each_place f (p ∷ top) (q ∷ next) = f p q ∷ each_place f top next

-- the top one of some bitmaps; the top one comes first
abbrev pub top_of : List (List Rgba) → List Rgba
top_of [] = []
top_of (top ∷ below) = top

-- with a transparent bitmap on top, where there are fewer than `most`
abbrev pub with_layer : ℕ → ℕ → List (List Rgba) → List (List Rgba)
with_layer side most layers = if nat_lt (length layers) most then blank side ∷ layers else layers

-- with a copy of the top bitmap on top, where there are fewer than `most`
abbrev pub with_copy : ℕ → List (List Rgba) → List (List Rgba)
with_copy most layers = if nat_lt (length layers) most then top_of layers ∷ layers else layers

-- with the two top ones made one, where there are two
abbrev pub with_merged : (Rgba → Rgba → Rgba) → List (List Rgba) → List (List Rgba)
with_merged f [] = []
with_merged f (top ∷ []) = top ∷ []
with_merged f (top ∷ next ∷ below) = each_place f top next ∷ below

-- with the two top ones composed
abbrev pub with_composed : List (List Rgba) → List (List Rgba)
with_composed layers = with_merged over layers

-- with the two top ones clipped
abbrev pub with_clipped : List (List Rgba) → List (List Rgba)
with_clipped layers = with_merged clipped layers
