-- Places of the target, one after the other.
use Rattle.std.proofs.Common.{◌≡◌, ℕ, zero, suc, ◌+◌, ◌-◌, ◌<◌, ◌≤◌, Some, None, ◌∷◌, ◌++◌, length, take, drop, arith, refl, ap, ◌∙◌}
use Rattle.std.specs.Prelude.{slice_get, slice_range}
use Rattle.std.proofs.lemmas.Option.{slice_get_past}
use Rattle.sym_strand.specs.declared.cells.Cell.TheVariants.{Target}
use Rattle.sym_strand.specs.Cells.{places_from}

pub length-places : (lo n : ℕ) → length (places_from lo n) ≡ n
unfolding places_from
length-places lo zero = refl
length-places lo (suc n) = ap suc (length-places (lo + 1) n)

pub same_places : (lo lo' n n' : ℕ) → lo ≡ lo' → n ≡ n' → places_from lo n ≡ places_from lo' n'
same_places lo lo' n n' p q = ap (λ l. places_from l n) p ∙ ap (λ m. places_from lo' m) q

pub take-places : (k lo n : ℕ) → k ≤ n → take k (places_from lo n) ≡ places_from lo k
unfolding places_from
take-places zero lo n within = refl
take-places (suc k) lo zero within = absurd (omega arith)
take-places (suc k) lo (suc n) within = ap (λ z. Target lo ∷ z) (take-places k (lo + 1) n (omega arith))

pub drop-places : (k lo n : ℕ) → drop k (places_from lo n) ≡ places_from (lo + k) (n - k)
unfolding places_from
drop-places zero lo n = same_places lo (lo + 0) n (n - 0) (omega arith) (omega arith)
drop-places (suc k) lo zero = same_places (lo + suc k) (lo + suc k) 0 (0 - suc k) refl (omega arith)
drop-places (suc k) lo (suc n) = drop-places k (lo + 1) n ∙ same_places (lo + 1 + k) (lo + suc k) (n - k) (suc n - suc k) (omega arith) (omega arith)

pub get-places : (k lo n : ℕ) → k < n → slice_get (places_from lo n) k ≡ Some (Target (lo + k))
unfolding places_from
get-places zero lo zero within = absurd (omega arith)
get-places (suc k) lo zero within = absurd (omega arith)
get-places zero lo (suc n) within = ap (λ p. Some (Target p)) (let e : lo ≡ lo + 0 = omega arith in e)
get-places (suc k) lo (suc n) within = get-places k (lo + 1) n (omega arith) ∙ ap (λ p. Some (Target p)) (let e : lo + 1 + k ≡ lo + suc k = omega arith in e)

pub no-places : (k lo n : ℕ) → n ≤ k → slice_get (places_from lo n) k ≡ None
no-places k lo n past = slice_get_past (places_from lo n) k (omega (arith, length-places lo n))

pub append-places : (lo n m : ℕ) → places_from lo n ++ places_from (lo + n) m ≡ places_from lo (n + m)
unfolding places_from
append-places lo zero m = same_places (lo + 0) lo m (0 + m) (omega arith) (omega arith)
append-places lo (suc n) m =
    ap (λ z. Target lo ∷ z) (ap (λ p. places_from (lo + 1) n ++ places_from p m) (let e : lo + suc n ≡ lo + 1 + n = omega arith in e) ∙ append-places (lo + 1) n m)
    ∙ ap (λ k. places_from lo k) (let e : suc (n + m) ≡ suc n + m = omega arith in e)

-- a part of the places
pub range-places : (lo n from to : ℕ) → from ≤ to → to ≤ n → slice_range (places_from lo n) from to ≡ places_from (lo + from) (to - from)
range-places lo n from to order within =
    ap (λ z. take (to - from) z) (drop-places from lo n) ∙ take-places (to - from) (lo + from) (n - from) (omega arith)
