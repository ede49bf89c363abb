-- What a folder gives of a file whose contents are told.
use Rattle.std.specs.Prelude.{◌≡◌, ℕ, ◌≤◌, ◌↔◌, List, length, take, drop}

-- the buffer begins with so many bytes of the contents from a place on, and with none exactly at or past their end
pub record Gives (contents : List ℕ) (place count : ℕ) (buffer : List ℕ) : Type 0 where
  pub bytes : take count buffer ≡ take count (drop place contents)
  pub ends : (count ≡ 0) ↔ (length contents ≤ place)
