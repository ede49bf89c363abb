-- What holds of the places where a list of bases stands.
use Rattle.std.specs.Prelude.{◌≡◌, ℕ, ◌⊎◌, List}
use Rattle.fuun_base.specs.declared.letters.Base.{Base}
use Rattle.fuun_base.specs.Occurrence.{IsFirst, IsAbsent}

-- there is at most one first place
abbrev pub FirstIsOne : Type 0
FirstIsOne = (s d : List Base) (from a b : ℕ) → IsFirst s d from a → IsFirst s d from b → a ≡ b

-- where there is a first place, the list is not absent
abbrev pub FirstIsNotAbsent : Type 0
FirstIsNotAbsent = (s d : List Base) (from place : ℕ) → IsFirst s d from place → IsAbsent s d from → ⊥

-- there is a first place, or the list is absent
abbrev pub FirstOrAbsent : Type 0
FirstOrAbsent = (s d : List Base) (from : ℕ) → ((place : ℕ) × IsFirst s d from place) ⊎ IsAbsent s d from
