-- Lines and columns, which count from 1.
use Rattle.std.specs.Prelude.{ℕ, ◌+◌, ◌==◌, if◌then◌else◌, List, fold, take}
use Rattle.source_tokens.specs.declared.places.Place.{Place}

abbrev pub place_at : ℕ → ℕ → Place
place_at line column = record { line = line; column = column }

-- the place behind a byte
abbrev pub behind : Place → ℕ → Place
behind place byte = if byte == 10 then place_at (place.line + 1) 1 else place_at place.line (place.column + 1)

-- the place behind so many bytes
abbrev pub place_of : List ℕ → ℕ → Place
place_of bytes at = fold behind (place_at 1 1) (take at bytes)
