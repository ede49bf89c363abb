-- Steps of loops.
use Rattle.std.proofs.Common.{◌≡◌, ℕ, ◌+◌, ◌<◌, ◌≤◌, Bool, true, false, List, ◌∷◌, length, drop, get_or, arith, refl, ap, ◌∙◌, add-one, drop-cons}
use Rattle.std.specs.List.{prefix_len}
use Rattle.std.proofs.lemmas.List.{drop_all}

pub next_byte : (bytes : List ℕ) (i : ℕ) → i < length bytes → drop i bytes ≡ get_or bytes i 0 ∷ drop (i + 1) bytes
next_byte bytes i within = rw (add-one, drop-cons bytes i 0 within) refl

-- stretches

pub stretch_stop : (test : ℕ → Bool) (bytes : List ℕ) (i : ℕ) → i < length bytes → test (get_or bytes i 0) ≡ false
    → i + prefix_len test (drop i bytes) ≡ prefix_len test bytes → i ≡ prefix_len test bytes
stretch_stop test bytes i within other before =
    let here : prefix_len test (drop i bytes) ≡ 0 = ap (prefix_len test) (next_byte bytes i within) ∙ rw other refl in
    omega arith

pub stretch_more : (test : ℕ → Bool) (bytes : List ℕ) (i : ℕ) → i < length bytes → test (get_or bytes i 0) ≡ true
    → i + prefix_len test (drop i bytes) ≡ prefix_len test bytes → i + 1 + prefix_len test (drop (i + 1) bytes) ≡ prefix_len test bytes
stretch_more test bytes i within is before =
    let here : prefix_len test (drop i bytes) ≡ 1 + prefix_len test (drop (i + 1) bytes) = ap (prefix_len test) (next_byte bytes i within) ∙ rw is refl in
    omega arith

pub stretch_all : (test : ℕ → Bool) (bytes : List ℕ) (i : ℕ) → length bytes ≤ i → i ≤ length bytes
    → i + prefix_len test (drop i bytes) ≡ prefix_len test bytes → length bytes ≡ prefix_len test bytes
stretch_all test bytes i all most before =
    let here : prefix_len test (drop i bytes) ≡ 0 = ap (prefix_len test) (drop_all i bytes all) in
    omega arith
