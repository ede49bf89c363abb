-- What layers keep of the bitmaps that they do not show.
use Rattle.std.specs.Prelude.{◌≡◌, ℕ, ◌+◌, ◌≤◌, List, vec_len}
use Rattle.std.specs.Vec.{vec_capacity}
use Rattle.std.specs.declared.vec.Vec.{Vec}
use Rattle.canvas.specs.Pixels.{Rgba}

-- each bitmap but the top one is shown below it or spare, and either list has room for all of them
module _ {Z : Type 0} where
  pub record HasRoom (most : ℕ) (below spare : Vec (List Rgba) Z) : Type 0 where
    pub all : vec_len below + vec_len spare + 1 ≡ most
    pub small : most ≤ 16
    pub room_below : most ≤ vec_capacity below + 1
    pub room_spare : most ≤ vec_capacity spare + 1
