-- Fronts of a needle, and where the whole needle stands.
use Rattle.std.proofs.Common.{◌≡◌, ℕ, ◌+◌, ◌-◌, ◌<◌, ◌≤◌, List, length, take, drop, get_or, arith, sym, ap, ◌∙◌, inl, inr}
use Rattle.std.proofs.lemmas.List.{get_or-take, get_or-drop, length-take-le, length-drop, ext_get_or}
use Rattle.std.proofs.lemmas.Bool.{cases_lt}
use Rattle.fuun_base.specs.declared.letters.Base.{Base}
use Rattle.fuun_base.specs.declared.letters.Base.TheVariants.{I}
use Rattle.fuun_base.specs.Occurrence.{Stands}
use Rattle.strand.specs.Shift.{IsFront, IsShift}

pub front_shorter : (s d : List Base) (place len less : ℕ) → less ≤ len → IsFront s d place len → IsFront s d place less
front_shorter s d place len less within front k lt = front k (omega arith)

pub front_more : (s d : List Base) (place len : ℕ) → IsFront s d place len → get_or d (place + len) I ≡ get_or s len I → IsFront s d place (len + 1)
front_more s d place len front here k lt =
    elim (cases_lt k len) [
      | inl before ↦ front k before
      | inr not_before ↦ let same : k ≡ len = omega arith in ap (λ n. get_or d (place + n) I) same ∙ here ∙ ap (λ n. get_or s n I) (sym same)
    ]

pub front_of_stands : (s d : List Base) (place : ℕ) → Stands s d place → IsFront s d place (length s)
front_of_stands s d place stands k lt =
    let n : ℕ = place + length s - place in
    let short : k < n = omega arith in
    sym (get_or-drop place d k I) ∙ sym (get_or-take n (drop place d) k I short) ∙ ap (λ e. get_or e k I) stands.there

pub stands_of_front : (s d : List Base) (place : ℕ) → place + length s ≤ length d → IsFront s d place (length s) → Stands s d place
stands_of_front s d place within front =
    let n : ℕ = place + length s - place in
    let room : n ≤ length (drop place d) = omega (arith, length-drop place d) in
    let long : length (take n (drop place d)) ≡ length s = omega (arith, length-take-le n (drop place d) room) in
    record {
      within = within;
      there = ext_get_or I (take n (drop place d)) s long
          (λ k lt. let short : k < n = omega arith in get_or-take n (drop place d) k I short ∙ get_or-drop place d k I ∙ front k (omega arith));
    }

-- after a shift, what was found still fits
pub front_shifted : (s d : List Base) (place len shift : ℕ) → IsShift s len shift → IsFront s d place len → IsFront s d (place + shift) (len - shift)
front_shifted s d place len shift is front k lt =
    let moved : place + shift + k ≡ place + (shift + k) = omega arith in
    ap (λ n. get_or d n I) moved ∙ front (shift + k) (omega arith) ∙ is.fits k lt

-- no place that the shift passes over has so long a front
pub none_passed : (s d : List Base) (place len shift other : ℕ) → IsShift s len shift → IsFront s d place len → place < other → other < place + shift → IsFront s d other (place + len - other) → ⊥
none_passed s d place len shift other is front after before found =
    is.least (other - place) (omega arith) (omega arith)
    (λ k lt. let same : place + (other - place + k) ≡ other + k = omega arith in
    sym (front (other - place + k) (omega arith)) ∙ ap (λ n. get_or d n I) same ∙ found k (omega arith))
