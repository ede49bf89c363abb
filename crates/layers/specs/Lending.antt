-- What layers end as, once a `&mut` into them has ended.
use Rattle.std.specs.Prelude.{ℕ, List, [], ◌∷◌}
use Rattle.std.specs.Borrow.{Fml, MutBor, Lends}
use denote.Param.{param, number}
use Rattle.canvas.specs.Pixels.{Rgba}
use Rattle.canvas.specs.contracts.bitmap.Bitmap as bitmap
use Rattle.layers.specs.contracts.stack.Layers.{the_row}

-- another bitmap on top, and those below it as they were
abbrev pub with_top : List (List Rgba) → List Rgba → List (List Rgba)
with_top [] top = top ∷ []
with_top (was ∷ below) top = top ∷ below

-- the top bitmap is the one that was written last
abbrev pub LendsTop : ℕ → ℕ → MutBor (List (List Rgba)) → MutBor (List Rgba) → Fml
LendsTop side most layers top = Lends (the_row (param 0 (number side)) (param 1 (number most))) (bitmap.the_row (param 0 (number side))) layers top (with_top layers.now)
