-- What a board keeps.
use Rattle.std.specs.Prelude.{ℕ, ◌<◌, ◌≤◌}
use Rattle.canvas.specs.declared.pixel.Spot.{Spot}

-- the position and the mark are spots of a bitmap of this side
pub record AreInside (side : ℕ) (position aim : Spot) : Type 0 where
  pub small : side ≤ 1024
  pub at : (position.x < side) × (position.y < side)
  pub mark : (aim.x < side) × (aim.y < side)
