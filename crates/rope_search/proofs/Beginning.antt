-- Where a search that came to the end of a part may go on behind it.
use Rattle.std.proofs.Common.{◌≡◌, ℕ, ◌+◌, ◌-◌, ◌<◌, ◌≤◌, [], List, ◌++◌, Some, None, length, drop, get_or, arith, rules, ap, ◌∙◌, inl, inr, length-append, length-drop, subst}
use Rattle.std.proofs.lemmas.List.{get_or-drop, get_or_append_left, get_or-append-add}
use Rattle.std.proofs.lemmas.Bool.{cases_lt}
use Rattle.fuun_base.specs.declared.letters.Base.{Base}
use Rattle.fuun_base.specs.declared.letters.Base.TheVariants.{I}
use Rattle.fuun_base.specs.Occurrence.{Stands}
use Rattle.rope_search.specs.Sought.{IsSought, Goes, Searched}
use Rattle.rope_search.specs.Begins.{Agrees, BeginsFirst}
use Rattle.rope_search.proofs.Going.{stands_of, sought_first, lies_left}

-- a search of a part is one of each longer list
sought_longer : (s d w : List Base) (lo b g : ℕ) → lo ≤ length d → Goes s d lo 0 b g → IsSought s (d ++ w) lo b g
sought_longer s d w lo b g within goes =
    let start : lo ≡ 0 + lo = omega arith in
    let end : 0 + b ≡ b = omega arith in
    let room : lo ≤ length (d ++ w) = omega (arith, length-append d w) in
    subst (λ n. IsSought s (d ++ w) lo n g) end (goes (d ++ w) lo 0 (lies_left d w) (subst (λ n. IsSought s (d ++ w) lo n 0) start (sought_first s (d ++ w) lo room)))

-- what stands as far as a list goes does so with the rest of it behind
stands_longer : (s d : List Base) (place : ℕ) → place ≤ length d → Agrees s d place → Stands s (d ++ drop (length d - place) s) place
stands_longer s d place within agrees =
    let rest = drop (length d - place) s in
    stands_of s (d ++ rest) place (omega (arith, length-append d rest, length-drop (length d - place) s))
    (λ k lt.
    elim (cases_lt (place + k) (length d)) [
      | inl inside ↦ get_or_append_left d rest I (place + k) inside ∙ agrees k lt inside
      | inr past ↦
          let j : ℕ = place + k - length d in
          let there : place + k ≡ length d + j = omega arith in
          let back : length d - place + j ≡ k = omega arith in
          ap (λ n. get_or (d ++ rest) n I) there ∙ get_or-append-add d rest j I ∙ get_or-drop (length d - place) s j I ∙ ap (λ n. get_or s n I) back
    ])

pub begins_of : (s d : List Base) (lo b g place : ℕ) → lo ≤ length d → b ≤ length d → Goes s d lo 0 b g → place + g ≡ b → ((k : ℕ) → k < length s → place + k < length d → k < g) → BeginsFirst s d lo place
begins_of s d lo b g place within most goes end all =
    let sought : IsSought s (d ++ []) lo b g = sought_longer s d [] lo b g within goes in
    record {
      after = omega (arith, sought.after);
      within = omega arith;
      agrees = λ k lt inside.
          let last : place + k + g ≡ b + k = omega arith in
          ap (λ e. get_or e (place + k) I) (let e : d ≡ d ++ [] = search rules in e) ∙ sought.fits (place + k) k (all k lt inside) last;
      least = λ q past before agrees.
          (sought_longer s d (drop (length d - q) s) lo b g within goes).least q past (omega arith) (stands_longer s d q (omega arith) agrees);
    }

-- the answers of a search of all
pub begins_found : (s d : List Base) (lo end g place : ℕ) → lo ≤ length d → Searched s d lo 0 (Some end) g → place + length s ≡ end → BeginsFirst s d lo place
begins_found s d lo end g place within is start = begins_of s d lo end (length s) place within is.0 is.1 start (λ k lt inside. lt)

pub begins_last : (s d : List Base) (lo g place : ℕ) → lo ≤ length d → Searched s d lo 0 None g → place + g ≡ length d → BeginsFirst s d lo place
begins_last s d lo g place within is start = begins_of s d lo (length d) g place within (omega arith) is.1 start (λ k lt inside. omega arith)

pub found_within : (s d : List Base) (lo g : ℕ) → lo ≤ length d → Searched s d lo 0 None g → g ≤ length d
found_within s d lo g within is = omega (arith, (sought_longer s d [] lo (length d) g within is.1).after)

pub begins_here : (s d : List Base) (lo : ℕ) → lo ≤ length d → ((k : ℕ) → k < length s → lo + k < length d → ⊥) → BeginsFirst s d lo lo
begins_here s d lo within none = record {
  after = omega arith;
  within = within;
  agrees = λ k lt inside. absurd (none k lt inside);
  least = λ q past before. absurd (omega arith);
}
