-- Places where a list of bases stands.
use Rattle.std.proofs.Common.{◌≡◌, ℕ, zero, suc, ◌+◌, ◌<◌, ◌≤◌, ◌⊎◌, inl, inr, List, [], ◌∷◌, length, slice_range, arith, refl, ap, subst, ◌∙◌}
use Rattle.std.proofs.lemmas.Bool.{cases_lt, cases_eq, cases_order}
use Rattle.fuun_base.specs.declared.letters.Base.{Base}
use Rattle.fuun_base.specs.declared.letters.Base.TheVariants.{I, C, F, P}
use Rattle.fuun_base.specs.Occurrence.{Stands, IsFirst, IsAbsent}

-- no first place is before another
first_not_before : (s d : List Base) (from a b : ℕ) → IsFirst s d from a → IsFirst s d from b → a < b → ⊥
first_not_before s d from a b first_a first_b before = first_b.least a first_a.after before first_a.stands

pub first_is_one : (s d : List Base) (from a b : ℕ) → IsFirst s d from a → IsFirst s d from b → a ≡ b
first_is_one s d from a b first_a first_b =
    elim (cases_order a b) [
      | inl same ↦ same
      | inr (inl before) ↦ absurd (first_not_before s d from a b first_a first_b before)
      | inr (inr after) ↦ absurd (first_not_before s d from b a first_b first_a after)
    ]

pub first_is_not_absent : (s d : List Base) (from place : ℕ) → IsFirst s d from place → IsAbsent s d from → ⊥
first_is_not_absent s d from place first absent = absent place first.after first.stands

pub base_or : (a b : Base) → (a ≡ b) ⊎ (a ≡ b → ⊥)
base_or I I = inl refl
base_or I C = inr (λ e. cc)
base_or I F = inr (λ e. cc)
base_or I P = inr (λ e. cc)
base_or C I = inr (λ e. cc)
base_or C C = inl refl
base_or C F = inr (λ e. cc)
base_or C P = inr (λ e. cc)
base_or F I = inr (λ e. cc)
base_or F C = inr (λ e. cc)
base_or F F = inl refl
base_or F P = inr (λ e. cc)
base_or P I = inr (λ e. cc)
base_or P C = inr (λ e. cc)
base_or P F = inr (λ e. cc)
base_or P P = inl refl

bases_or : (a b : List Base) → (a ≡ b) ⊎ (a ≡ b → ⊥)
bases_or [] [] = inl refl
bases_or [] (y ∷ b) = inr (λ e. cc)
bases_or (x ∷ a) [] = inr (λ e. cc)
bases_or (x ∷ a) (y ∷ b) =
    elim (base_or x y) [
      | inl same ↦ elim (bases_or a b) [
        | inl rest ↦ inl (ap (λ z. z ∷ a) same ∙ ap (λ l. y ∷ l) rest)
        | inr other ↦ inr (λ e. other (cc))
      ]
      | inr other ↦ inr (λ e. other (cc))
    ]

stands_or : (s d : List Base) (place : ℕ) → Stands s d place ⊎ (Stands s d place → ⊥)
stands_or s d place =
    elim (cases_lt (length d) (place + length s)) [
      | inl past ↦ inr (λ (x : Stands s d place). let within : place + length s ≤ length d = x.within in omega arith)
      | inr within ↦ elim (bases_or (slice_range d place (place + length s)) s) [
        | inl there ↦ inl (record { within = within; there = there })
        | inr other ↦ inr (λ x. other x.there)
      ]
    ]

abbrev FirstBelow : List Base → List Base → ℕ → ℕ → Type 0
FirstBelow s d from n = (place : ℕ) × IsFirst s d from place

abbrev NoneBelow : List Base → List Base → ℕ → ℕ → Type 0
NoneBelow s d from n = (place : ℕ) → from ≤ place → place < from + n → Stands s d place → ⊥

none_more : (s d : List Base) (from n : ℕ) → NoneBelow s d from n → (Stands s d (from + n) → ⊥) → NoneBelow s d from (suc n)
none_more s d from n none here place after before stands =
    elim (cases_eq place (from + n)) [
      | inl same ↦ here (subst (λ m. Stands s d m) same stands)
      | inr other ↦ none place after (omega arith) stands
    ]

first_below : (s d : List Base) (from n : ℕ) → FirstBelow s d from n ⊎ NoneBelow s d from n
first_below s d from zero = inr (λ place after before stands. absurd (omega arith))
first_below s d from (suc n) =
    elim (first_below s d from n) [
      | inl found ↦ inl found
      | inr none ↦ elim (stands_or s d (from + n)) [
        | inl stands ↦ inl (from + n, record { after = omega arith; stands = stands; least = λ earlier after before there. none earlier after (omega arith) there })
        | inr not ↦ inr (none_more s d from n none not)
      ]
    ]

pub first_or_absent : (s d : List Base) (from : ℕ) → ((place : ℕ) × IsFirst s d from place) ⊎ IsAbsent s d from
first_or_absent s d from =
    elim (first_below s d from (suc (length d))) [
      | inl found ↦ inl found
      | inr none ↦ inr (λ place after (stands : Stands s d place). let within : place + length s ≤ length d = stands.within in none place after (omega arith) stands)
    ]
