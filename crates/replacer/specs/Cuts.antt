-- What was cut of the groups of a match, to be shared.
use Rattle.std.specs.Prelude.{◌≡◌, ℕ, ◌≤◌, List, length, get_or, Option, None, IfSome}
use Rattle.fuun_base.specs.declared.letters.Base.{Base}
use Rattle.replacer.specs.Replacement.{text_of}

-- a strand has this text, and is no higher than its length allows
abbrev pub IsCut : {S : Type 0} → (S → List Base) → (S → ℕ) → (ℕ → ℕ) → List Base → S → Type 0
IsCut bases height height_bound text strand = (bases strand ≡ text) × (height strand ≤ height_bound (length (bases strand)))

-- there are no more places than groups, and what stands at a group's number is a cut of its text
abbrev pub AreCuts : {S : Type 0} → (S → List Base) → (S → ℕ) → (ℕ → ℕ) → List (List Base) → List (Option S) → Type 0
AreCuts bases height height_bound texts cuts =
    (length cuts ≤ length texts) × ((n : ℕ) → IfSome (get_or cuts n None) (λ strand. IsCut bases height height_bound (text_of texts n) strand))
