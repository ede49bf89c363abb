-- Bytes cut at their line feeds.
use Rattle.std.specs.Prelude.{◌≢◌, ℕ, List, [], ◌∷◌, ◌++◌}

-- lines, a line feed behind each, and what is left behind them
abbrev pub joined : List (List ℕ) → List ℕ → List ℕ
joined [] left = left
joined (line ∷ more) left = line ++ (10 ∷ joined more left)

-- no byte is a line feed
abbrev pub NoFeed : List ℕ → Type 0
NoFeed [] = Unit {0}
NoFeed (byte ∷ bytes) = (byte ≢ 10) × NoFeed bytes

-- no byte of any line is a line feed
abbrev pub NoFeeds : List (List ℕ) → Type 0
NoFeeds [] = Unit {0}
NoFeeds (line ∷ more) = NoFeed line × NoFeeds more
