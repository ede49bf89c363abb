-- The needle of the worked row.
use Rattle.std.proofs.Common.{◌≡◌, ℕ, zero, suc, ◌+◌, ◌-◌, ◌<◌, List, [], ◌∷◌, Option, Some, None, MatchOption, length, replicate, get_or, arith, refl, sym, ap, ◌∙◌, inl, inr, length-append}
use Rattle.std.proofs.Math.ListN.{set, length-set}
use Rattle.std.proofs.lemmas.List.{get_or-replicate, length-replicate, get_or_append_left, get_or-append_right, get_or_past, get_or-set_same, get_or-set_other, ext_get_or}
use Rattle.std.proofs.lemmas.Bool.{cases_lt, cases_order}
use Rattle.fuun_base.specs.declared.letters.Base.{Base}
use Rattle.fuun_base.specs.declared.letters.Base.TheVariants.{I, C, F}
use Rattle.fuun_base.specs.Occurrence.{IsFirst, IsAbsent}
use Rattle.fuun_base.proofs.OccurrenceLemmas.{first_is_one}
use Rattle.rope_search.specs.Worked.{row_of, needle_icfi}
use Rattle.rope_search.proofs.Going.{stands_at, stands_of, first_of_none}

pub length-row_of : (n m : ℕ) → length (row_of n m) ≡ n + m + 2
unfolding row_of
length-row_of n m = omega (arith, length-append (replicate n I) (C ∷ F ∷ replicate m I), length-replicate n I, length-replicate m I)

row_front : (n m k : ℕ) → k < n → get_or (row_of n m) k I ≡ I
unfolding row_of
row_front n m k lt =
    get_or_append_left (replicate n I) (C ∷ F ∷ replicate m I) I k (omega (arith, length-replicate n I)) ∙ get_or-replicate n k I I lt

row_rest : (n m j k : ℕ) → k ≡ n + j → get_or (row_of n m) k I ≡ get_or (C ∷ F ∷ replicate m I) j I
unfolding row_of
row_rest n m j k there =
    let near : k - n ≡ j = omega arith in
    get_or-append_right (replicate n I) (C ∷ F ∷ replicate m I) n k I (length-replicate n I) (omega arith) ∙ ap (λ i. get_or (C ∷ F ∷ replicate m I) i I) near

all_I : (m k : ℕ) → get_or (replicate m I) k I ≡ I
all_I m k =
    elim (cases_lt k m) [
      | inl within ↦ get_or-replicate m k I I within
      | inr past ↦ get_or_past (replicate m I) k I (omega (arith, length-replicate m I))
    ]

-- only one base is C
not_C : (n m k : ℕ) → (k ≡ n → ⊥) → get_or (row_of n m) k I ≡ C → ⊥
not_C n m k other is =
    elim (cases_order k n) [
      | inl here ↦ other here
      | inr (inl before) ↦ let front : get_or (row_of n m) k I ≡ I = row_front n m k before in cc
      | inr (inr after) ↦
          elim (cases_lt (n + 1) k) [
            | inl late ↦
                let rest : get_or (row_of n m) k I ≡ I = row_rest n m (suc (suc (k - n - 2))) k (omega arith) ∙ all_I m (k - n - 2) in
                cc
            | inr next ↦ let rest : get_or (row_of n m) k I ≡ F = row_rest n m (suc zero) k (omega arith) in cc
          ]
    ]

icfi_at : (n m p k : ℕ) → p + 1 ≡ n → k < 4 → get_or (row_of n m) (p + k) I ≡ get_or needle_icfi k I
icfi_at n m p zero end lt = row_front n m (p + zero) (omega arith)
icfi_at n m p (suc zero) end lt = row_rest n m zero (p + suc zero) (omega arith)
icfi_at n m p (suc (suc zero)) end lt = row_rest n m (suc zero) (p + suc (suc zero)) (omega arith)
icfi_at n m p (suc (suc (suc zero))) end lt = row_rest n m (suc (suc zero)) (p + suc (suc (suc zero))) (omega arith) ∙ all_I m zero
icfi_at n m p (suc (suc (suc (suc k)))) end lt = absurd (omega arith)

pub icfi_first : (n m p : ℕ) → p + 1 ≡ n → 0 < m → IsFirst needle_icfi (row_of n m) 0 p
icfi_first n m p end some = record {
  after = omega arith;
  stands = stands_of needle_icfi (row_of n m) p (omega (arith, length-row_of n m)) (λ k lt. icfi_at n m p k end lt);
  least = λ earlier after before stands. not_C n m (earlier + 1) (λ same. absurd (omega arith)) (stands_at needle_icfi (row_of n m) earlier stands 1 (omega arith));
}

pub icfi_absent : (n m : ℕ) → IsAbsent needle_icfi (row_of n m) n
icfi_absent n m p past stands = not_C n m (p + 1) (λ same. absurd (omega arith)) (stands_at needle_icfi (row_of n m) p stands 1 (omega arith))

-- what a search answers where the first place is known, and where there is none
some_of_first : (s d : List Base) (lo p : ℕ) (o : Option ℕ) → IsFirst s d lo p → MatchOption o (IsAbsent s d lo) (λ q. IsFirst s d lo q) → o ≡ Some p
some_of_first s d lo p None first is = absurd (is p first.after first.stands)
some_of_first s d lo p (Some q) first is = ap Some (first_is_one s d lo q p is first)

none_of_absent : (s d : List Base) (lo : ℕ) (o : Option ℕ) → IsAbsent s d lo → MatchOption o (IsAbsent s d lo) (λ q. IsFirst s d lo q) → o ≡ None
none_of_absent s d lo None absent is = refl
none_of_absent s d lo (Some q) absent is = absurd (absent q is.after is.stands)

pub found_in_row : (s d : List Base) (o : Option ℕ) → s ≡ needle_icfi → d ≡ row_of 512 511 → MatchOption o (IsAbsent s d 0) (λ q. IsFirst s d 0 q) → o ≡ Some 511
found_in_row s d o needle row is =
    some_of_first s d 0 511 o (rw (needle, row) (icfi_first 512 511 511 refl (omega arith))) is

pub not_found_in_row : (s d : List Base) (o : Option ℕ) → s ≡ needle_icfi → d ≡ row_of 512 511 → MatchOption o (IsAbsent s d 512) (λ q. IsFirst s d 512 q) → o ≡ None
not_found_in_row s d o needle row is =
    none_of_absent s d 512 o (rw (needle, row) (icfi_absent 512 511)) is

pub none_in_row : (s d : List Base) (o : Option ℕ) → s ≡ [] → d ≡ row_of 512 511 → MatchOption o (IsAbsent s d 5) (λ q. IsFirst s d 5 q) → o ≡ Some 5
none_in_row s d o needle row is =
    some_of_first s d 5 5 o (first_of_none s d 5 (omega (arith, ap length row, length-row_of 512 511)) (ap length needle)) is

made_at : (n m k : ℕ) → get_or (set (set (replicate (n + m + 2) I) n C) (n + 1) F) k I ≡ get_or (row_of n m) k I
made_at n m k =
    let size : length (replicate (n + m + 2) I) ≡ n + m + 2 = length-replicate (n + m + 2) I in
    let size' : length (set (replicate (n + m + 2) I) n C) ≡ n + m + 2 = length-set (replicate (n + m + 2) I) n C ∙ size in
    elim (cases_order k (n + 1)) [
      | inl here ↦
          ap (λ i. get_or (set (set (replicate (n + m + 2) I) n C) (n + 1) F) i I) here
          ∙ get_or-set_same (set (replicate (n + m + 2) I) n C) (n + 1) F I (omega arith)
          ∙ sym (row_rest n m (suc zero) k (omega arith))
      | inr other ↦
          let apart : k ≡ n + 1 → ⊥ = λ same. elim other [ inl less ↦ omega arith | inr more ↦ omega arith ] in
          get_or-set_other (set (replicate (n + m + 2) I) n C) (n + 1) k F I apart
          ∙ elim (cases_order k n) [
            | inl here ↦
                ap (λ i. get_or (set (replicate (n + m + 2) I) n C) i I) here
                ∙ get_or-set_same (replicate (n + m + 2) I) n C I (omega arith)
                ∙ sym (row_rest n m zero k (omega arith))
            | inr (inl before) ↦
                get_or-set_other (replicate (n + m + 2) I) n k C I (λ same. omega arith)
                ∙ all_I (n + m + 2) k ∙ sym (row_front n m k before)
            | inr (inr after) ↦
                get_or-set_other (replicate (n + m + 2) I) n k C I (λ same. omega arith)
                ∙ all_I (n + m + 2) k
                ∙ sym (row_rest n m (suc (suc (k - n - 2))) k (elim other [ inl less ↦ absurd (omega arith) | inr more ↦ omega arith ]) ∙ all_I m (k - n - 2))
          ]
    ]

-- the row, as it is written
pub made_row : (n m : ℕ) → set (set (replicate (n + m + 2) I) n C) (n + 1) F ≡ row_of n m
made_row n m =
    let size : length (set (set (replicate (n + m + 2) I) n C) (n + 1) F) ≡ length (row_of n m) =
    length-set (set (replicate (n + m + 2) I) n C) (n + 1) F ∙ length-set (replicate (n + m + 2) I) n C ∙ length-replicate (n + m + 2) I ∙ sym (length-row_of n m) in
    ext_get_or I (set (set (replicate (n + m + 2) I) n C) (n + 1) F) (row_of n m) size (λ k lt. made_at n m k)
