-- What a bitmap ends as, once a `&mut` into it has ended.
use Rattle.std.specs.Prelude.{ℕ, List, length}
use Rattle.std.specs.Borrow.{Fml, MutBor, Array, Lends}
use Rattle.std.specs.List.{refill}
use denote.Param.{param, number}
use Rattle.canvas.specs.Pixels.{Rgba}
use Rattle.canvas.specs.contracts.bitmap.Bitmap.{the_row}
use Rattle.canvas.specs.contracts.pixel.Pixel as pixel

-- the pixels are those that were written last, as many as there were
abbrev pub LendsPixels : ℕ → MutBor (List Rgba) → MutBor (List Rgba) → Fml
LendsPixels side b r = Lends (the_row (param 0 (number side))) (Array pixel.the_row 0) b r (refill (length b.now) b.now)
