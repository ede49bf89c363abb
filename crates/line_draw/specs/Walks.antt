-- The points of a line by numbers with no sign, and a line that was drawn some way.
use Rattle.std.specs.Prelude.{◌≡◌, ℕ, ◌+◌, ◌-◌, ◌*◌, ◌/◌, ◌<◌, ◌≤◌, List}
use Rattle.canvas.specs.declared.pixel.Spot.{Spot}
use Rattle.canvas.specs.Pixels.{Rgba, pixel_at}

-- a coordinate and another, no further apart than so many steps
abbrev pub IsFar : ℕ → ℕ → ℕ → Type 0
IsFar start stop steps = (stop ≤ start + steps) × (start ≤ stop + steps)

-- a coordinate after k steps
abbrev pub place_at : ℕ → ℕ → ℕ → ℕ → ℕ → ℕ
place_at start stop steps half k = (start * steps + half + k * stop - k * start) / steps

-- a spot after k steps
abbrev pub spot_at : Spot → Spot → ℕ → ℕ → ℕ → Spot
spot_at start stop steps half k = record { x = place_at start.x stop.x steps half k; y = place_at start.y stop.y steps half k }

-- the spots after 0 to n - 1 steps were set, and no others
pub record IsWalked (side : ℕ) (was : List Rgba) (start stop : Spot) (steps half n : ℕ) (pixel : Rgba) (now : List Rgba) : Type 0 where
  pub set : (k : ℕ) → k < n → let s = spot_at start stop steps half k in pixel_at side now s.x s.y ≡ pixel
  pub others : (s : Spot) → s.x < side → s.y < side → ((k : ℕ) → k < n → spot_at start stop steps half k ≡ s → ⊥) → pixel_at side now s.x s.y ≡ pixel_at side was s.x s.y
