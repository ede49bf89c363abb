-- The names of a source, by the order in which they were met.
use Rattle.std.specs.Prelude.{ℕ, if◌then◌else◌, List, [], ◌∷◌, ◌++◌, codes}
use Rattle.std.specs.Borrow.{Bor}
use Rattle.std.specs.List.{list_any, position_or_len}
use Rattle.std.specs.Str.{bytes_eq}

-- the place of a name among those that were met, or behind them
abbrev pub name_id : List (List ℕ) → List ℕ → ℕ
name_id met name = position_or_len (bytes_eq name) met

-- the names that were met, this one among them
abbrev pub with_name : List (List ℕ) → List ℕ → List (List ℕ)
with_name met name = if list_any (bytes_eq name) met then met else met ++ name ∷ []

-- the names that were met, this text among them
abbrev pub with_text : List (List ℕ) → Bor (List ℕ) → List (List ℕ)
with_text met text = with_name met text.now

-- the reserved names, and those of the twenty commands in the order of their table
unfoldable pub first_names : List (List ℕ)
first_names =
    codes "data" ∷ codes "rest" ∷ codes "self"
    ∷ codes "black" ∷ codes "red" ∷ codes "green" ∷ codes "yellow" ∷ codes "blue" ∷ codes "magenta" ∷ codes "cyan" ∷ codes "white"
    ∷ codes "transparent" ∷ codes "opaque" ∷ codes "empty"
    ∷ codes "move" ∷ codes "counterclockwise" ∷ codes "clockwise" ∷ codes "mark" ∷ codes "line" ∷ codes "fill"
    ∷ codes "layer" ∷ codes "compose" ∷ codes "clip" ∷ []
