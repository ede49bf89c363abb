-- Facts that are decided, and a search for a number.
use Rattle.std.proofs.Common.{◌≡◌, ℕ, zero, suc, ◌<◌, ◌⊎◌, inl, inr, subst, arith}
use Rattle.std.proofs.lemmas.Bool.{cases_order}

-- it holds, or it does not
abbrev pub Decided : Type 0 → Type 0
Decided P = P ⊎ ¬ P

pub both : (P Q : Type 0) → Decided P → Decided Q → Decided (P × Q)
both P Q (inl p) (inl q) = inl (p, q)
both P Q (inl p) (inr not_so) = inr (λ h. not_so h.1)
both P Q (inr not_so) q = inr (λ h. not_so h.0)

pub either : (P Q : Type 0) → Decided P → Decided Q → Decided (P ⊎ Q)
either P Q (inl p) q = inl (inl p)
either P Q (inr not_so) (inl q) = inl (inr q)
either P Q (inr not_so) (inr none) = inr (λ h. elim h [ inl p ↦ not_so p | inr q ↦ none q ])

pub same_number : (m n : ℕ) → Decided (m ≡ n)
same_number m n =
    elim (cases_order m n) [
      | inl same ↦ inl same
      | inr other ↦ inr (λ same. elim other [ inl below ↦ omega arith | inr above ↦ omega arith ])
    ]

-- a number below n with a property
abbrev pub Some_below : ℕ → (ℕ → Type 0) → Type 0
Some_below n P = (k : ℕ) × ((k < n) × P k)

pub search_below : (n : ℕ) (P : ℕ → Type 0) → ((k : ℕ) → Decided (P k)) → Decided (Some_below n P)
search_below zero P decide = inr (λ found. omega (arith, found.1.0))
search_below (suc n) P decide =
    elim (decide n) [
      | inl here ↦ inl (n, (omega arith, here))
      | inr not_so ↦ elim (search_below n P decide) [
        | inl found ↦ inl (found.0, (omega (arith, found.1.0), found.1.1))
        | inr none ↦ inr (λ found. elim (cases_order found.0 n) [
          | inl same ↦ not_so (subst P same found.1.1)
          | inr (inl below) ↦ none (found.0, (below, found.1.1))
          | inr (inr above) ↦ omega (arith, found.1.0)
        ])
      ]
    ]
