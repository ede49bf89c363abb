-- What was cut of the groups of a match, to be shared.
use Rattle.std.specs.Prelude.{◌≡◌, ℕ, ◌≤◌, List, length, get_or, Option, None, IfSome}
use Rattle.sym_strand.specs.declared.cells.Cell.{Cell}
use Rattle.explainer.specs.Replacement.{text_of}

-- there are no more places than groups, and what stands at a group's number is its text
abbrev pub AreCuts : List (List Cell) → List (Option (List Cell)) → Type 0
AreCuts texts cuts = (length cuts ≤ length texts) × ((n : ℕ) → IfSome (get_or cuts n None) (λ cut. cut ≡ text_of texts n))
