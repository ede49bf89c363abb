-- Uses of definitions.
use Rattle.std.proofs.Common.{◌≡◌, ℕ, suc, ◌<◌, ◌≤◌, ◌⊎◌, inl, inr, Bool, List, [], ◌∷◌, length, flat_map, arith, refl, ap, ◌∙◌, subst}
use Rattle.std.proofs.lemmas.Bool.{eq-eqb, le-leb, ne_eqb}
use Rattle.source_text.specs.declared.held.Held.{Held}
use Rattle.source_text.specs.declared.names.Known.{Known}
use Rattle.source_text.specs.declared.names.Known.TheVariants as known
use Rattle.source_text.specs.declared.parts.Found.{Found}
use Rattle.source_text.specs.declared.pieces.Item.{Item}
use Rattle.source_text.specs.declared.pieces.Item.TheVariants.{Base as Literal, Group, Len, Given, Skip, Search, Start, Stop}
use Rattle.source_text.specs.declared.pieces.Piece.{Piece}
use Rattle.source_text.specs.declared.sequences.Kind.{Kind}
use Rattle.source_text.specs.Keeping.{AreHeld, IsHeld, IsMeant, IsWorth}
use Rattle.source_text.specs.Names.{Meaning, Unknown, Reserved, Definition, Label}
use Rattle.source_text.specs.Pieces.{filled, filled_by, filled_item, size}
use Rattle.source_text.specs.Sequences.{bad, defined, meant, served}

pub lists_len : (limit : ℕ) (given : List Held) (lists : List (List Piece)) → AreHeld limit given lists → length given ≡ length lists
lists_len limit [] [] are = refl
lists_len limit [] (x ∷ lists) are = absurd are
lists_len limit (held ∷ given) [] are = absurd are
lists_len limit (held ∷ given) (x ∷ lists) are = ap (λ n. suc n) (lists_len limit given lists are.1)

pub filled_none : (lists : List (List Piece)) (pieces : List Piece) → length lists ≡ 0 → filled lists pieces ≡ pieces
filled_none [] pieces none = refl
filled_none (x ∷ lists) pieces none = absurd (omega arith)

pub filled_some : (lists : List (List Piece)) (pieces : List Piece) → 0 < length lists → filled lists pieces ≡ flat_map (filled_item lists) pieces
filled_some [] pieces some = absurd (omega arith)
filled_some (x ∷ lists) pieces some = refl

pub filled_other : (lists : List (List Piece)) (piece : Piece) (item : Item) → ((k : ℕ) → item ≡ Given k → ⊥) → filled_by lists piece item ≡ piece ∷ []
filled_other lists piece (Literal b) other = refl
filled_other lists piece (Group n level) other = refl
filled_other lists piece (Len n) other = refl
filled_other lists piece (Given k) other = absurd (other k refl)
filled_other lists piece (Skip sum) other = refl
filled_other lists piece (Search s) other = refl
filled_other lists piece Start other = refl
filled_other lists piece Stop other = refl

pub held_whole : (limit : ℕ) (held : Held) (pieces : List Piece) → IsHeld limit held pieces → size pieces ≤ limit → held.items.items ≡ pieces
held_whole limit held pieces is within = is.listed ∙ rw (le-leb (size pieces) limit within) refl

pub defined_bad : (kind : Kind) (at count : ℕ) (lists : List (List Piece)) (pieces : List Piece) → (count ≡ length lists → ⊥) → defined kind at lists count pieces ≡ bad at
defined_bad kind at count lists pieces other = rw (ne_eqb count (length lists) other) refl

pub defined_served : (kind : Kind) (at count : ℕ) (lists : List (List Piece)) (pieces : List Piece) → count ≡ length lists → defined kind at lists count pieces ≡ served kind at (filled lists pieces)
defined_served kind at count lists pieces same = rw (eq-eqb count (length lists) same) refl

-- a name means what is known of it

-- no definition is known
abbrev pub NoDefinition : Known → Type 0
NoDefinition of = (of ≡ known.Unknown) ⊎ ((of ≡ known.Reserved) ⊎ ((line : ℕ) × (twice : Bool) × (of ≡ known.Label line twice)))

no_definition : (limit count : ℕ) (pieces : List Piece) (of : Known) → NoDefinition of → IsMeant limit of (Definition count pieces) → ⊥
no_definition limit count pieces of (inl is) meant = subst (λ k. IsMeant limit k (Definition count pieces)) is meant
no_definition limit count pieces of (inr (inl is)) meant = subst (λ k. IsMeant limit k (Definition count pieces)) is meant
no_definition limit count pieces of (inr (inr is)) meant = subst (λ k. IsMeant limit k (Definition count pieces)) is.2 meant

pub other_meant : (limit : ℕ) (kind : Kind) (at : ℕ) (of : Known) (found : Found) (lists : List (List Piece)) (meaning : Meaning) → NoDefinition of → IsMeant limit of meaning → IsWorth limit found (bad at)
    → IsWorth limit found (meant kind at lists meaning)
other_meant limit kind at of found lists Unknown other is worth = worth
other_meant limit kind at of found lists Reserved other is worth = worth
other_meant limit kind at of found lists (Definition count pieces) other is worth = absurd (no_definition limit count pieces of other is)
other_meant limit kind at of found lists (Label line twice) other is worth = worth

pub definition_meant : (limit n : ℕ) (kind : Kind) (at : ℕ) (held : Held) (found : Found) (lists : List (List Piece)) (meaning : Meaning) → IsMeant limit (known.Definition n held) meaning
    → ((pieces : List Piece) → IsHeld limit held pieces → (0 < n → size pieces ≤ limit) → IsWorth limit found (defined kind at lists n pieces)) → IsWorth limit found (meant kind at lists meaning)
definition_meant limit n kind at held found lists Unknown is worth = absurd is
definition_meant limit n kind at held found lists Reserved is worth = absurd is
definition_meant limit n kind at held found lists (Definition count pieces) is worth =
    subst (λ k. IsWorth limit found (defined kind at lists k pieces)) is.same (worth pieces is.is (λ some. is.whole (subst (λ k. 0 < k) is.same some)))
definition_meant limit n kind at held found lists (Label line twice) is worth = absurd is
