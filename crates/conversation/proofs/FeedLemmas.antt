-- Lemmas on where the first line feed stands.
use Rattle.std.proofs.Common.{◌≡◌, ℕ, zero, suc, ◌<◌, true, false, List, [], ◌∷◌, ◌++◌, length, get_or, ◌≤◌, take, drop, None, Some, ap, arith}
use Rattle.std.specs.Prelude.{◌==◌, position}
use Rattle.std.proofs.lemmas.Bool.{eqb-true}
use Rattle.std.specs.List.{position_or_len}
use Rattle.std.proofs.lemmas.Grind.{common_steps}
use Rattle.std.proofs.lemmas.List.Quantifiers.{position-Some}
use Rattle.std.proofs.lemmas.List.Sums.{fails_before_first}
use Rattle.conversation.specs.Cut.{NoFeed}

not_feed : (byte : ℕ) → (byte == 10) ≡ false → byte ≡ 10 → ⊥
not_feed byte isnt is = grind (arith, isnt, is)

-- a line, its line feed, and what stands behind
split_at : (bytes : List ℕ) (end : ℕ) → end < length bytes → (get_or bytes end 0 == 10) ≡ true → ((k : ℕ) → k < end → (get_or bytes k 0 == 10) ≡ false)
    → NoFeed (take end bytes) × (bytes ≡ take end bytes ++ (10 ∷ drop (suc end) bytes))
split_at [] end inside is before = absurd (omega arith)
split_at (byte ∷ bytes) zero inside is before = (tt, ap (λ b. b ∷ bytes) (eqb-true byte 10 is))
split_at (byte ∷ bytes) (suc end) inside is before =
    let more = split_at bytes end (omega arith) is (λ k lt. before (suc k) (omega arith)) in
    ((not_feed byte (before 0 (omega arith)), more.0), ap (λ l. byte ∷ l) more.1)

pub split_first : (bytes : List ℕ) (end : ℕ) → position (λ byte. byte == 10) bytes ≡ Some end
    → (end < length bytes) × (NoFeed (take end bytes) × (bytes ≡ take end bytes ++ (10 ∷ drop (suc end) bytes)))
split_first bytes end is =
    let found = position-Some (λ byte. byte == 10) bytes end 0 is in
    (found.0, split_at bytes end found.0 found.1 found.2)

none_feeds : (bytes : List ℕ) → ((k : ℕ) → k < length bytes → (get_or bytes k 0 == 10) ≡ false) → NoFeed bytes
none_feeds [] other = tt
none_feeds (byte ∷ bytes) other = (not_feed byte (other 0 (omega arith)), none_feeds bytes (λ k lt. other (suc k) (omega arith)))

-- no line feed was found
pub none_found : (bytes : List ℕ) → None ≡ position (λ byte. byte == 10) bytes → NoFeed bytes
none_found bytes is =
    let long : length bytes ≤ position_or_len (λ byte. byte == 10) bytes = grind (arith, common_steps) in
    none_feeds bytes (λ k lt. fails_before_first (λ byte. byte == 10) bytes k 0 (omega arith))
