-- The words of a line.
use Rattle.std.specs.Prelude.{ℕ, ◌==◌, if◌then◌else◌, Bool, List, [], ◌∷◌, filter, length, nat_lt, not}
use Rattle.std.specs.List.{before_first}
use Rattle.fuun_base.specs.Letter.{is_blank}

-- what stands before the first `#`
abbrev pub before_comment : List ℕ → List ℕ
before_comment line = before_first (λ byte. byte == 35) line

-- a byte before the parts that follow it
abbrev pub before_parts : ℕ → List (List ℕ) → List (List ℕ)
before_parts byte [] = (byte ∷ []) ∷ []
before_parts byte (part ∷ more) = (byte ∷ part) ∷ more

-- the parts of a text: a blank ends each, and bytes after the last blank are a part too
abbrev pub parts : List ℕ → List (List ℕ)
parts [] = []
parts (byte ∷ text) = if is_blank byte then [] ∷ parts text else before_parts byte (parts text)

-- a part has bytes
abbrev pub is_word : List ℕ → Bool
is_word part = nat_lt 0 (length part)

-- the words of a text: its parts that have bytes
abbrev pub words : List ℕ → List (List ℕ)
words text = filter is_word (parts text)

abbrev pub is_no_blank : ℕ → Bool
is_no_blank byte = not (is_blank byte)
