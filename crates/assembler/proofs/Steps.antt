-- Steps of loops.
use Rattle.std.proofs.Common.{◌≡◌, ℕ, ◌+◌, ◌<◌, ◌≤◌, ◌==◌, true, false, Option, Some, None, option_map, option_and_then, List, [], ◌∷◌, ◌++◌, length, drop, get_or, arith, refl, sym, ap, ◌∙◌, append_assoc, append-nil, add-one, drop-cons, subst}
use Rattle.std.proofs.lemmas.List.{drop_all}
use Rattle.fuun_base.specs.declared.letters.Base.{Base}
use Rattle.fuun_base.specs.Letter.{base_of}
use Rattle.fuun_base.specs.Decimals.{is_digit}
use Rattle.assembler.specs.Ahead.{digits_ahead, letters_ahead, with_digit}
use Rattle.assembler.proofs.NumberLemmas.{digits_on, digits_stop}
use Rattle.assembler.proofs.Readers.{NoDigit}

-- the letters of a search

-- letters that were read, in so many bytes, before those that stand ahead
abbrev pub with_front : List Base → ℕ → Option (List Base × ℕ) → Option (List Base × ℕ)
with_front bases place None = None
with_front bases place (Some s) = Some (bases ++ s.0, place + s.1)

pub no_front : (found : Option (List Base × ℕ)) → with_front [] 0 found ≡ found
no_front None = refl
no_front (Some s) =
    let pair : ℕ → Option (List Base × ℕ) = λ k. Some (s.0, k) in
    ap pair (omega arith)

front_more : (bases : List Base) (place : ℕ) (base : Base) (found : Option (List Base × ℕ))
    → with_front bases place (option_map {U = List Base × ℕ} (λ (s : List Base × ℕ). (base ∷ s.0, s.1 + 1)) found) ≡ with_front (bases ++ base ∷ []) (place + 1) found
front_more bases place base None = refl
front_more bases place base (Some s) =
    let pair : List Base → ℕ → Option (List Base × ℕ) = λ l k. Some (l, k) in
    let sum : place + (s.1 + 1) ≡ place + 1 + s.1 = omega arith in
    ap (λ l. pair l (place + (s.1 + 1))) (sym (append_assoc bases (base ∷ []) s.0)) ∙ ap (pair ((bases ++ base ∷ []) ++ s.0)) sum

next_byte : (bytes : List ℕ) (i : ℕ) → i < length bytes → drop i bytes ≡ get_or bytes i 0 ∷ drop (i + 1) bytes
next_byte bytes i within = rw (add-one, drop-cons bytes i 0 within) refl

pub letters_end : (bytes : List ℕ) (bases : List Base) (i : ℕ) → i < length bytes → get_or bytes i 0 == 62 ≡ true → with_front bases i (letters_ahead (drop i bytes)) ≡ letters_ahead bytes
    → ◌≡◌ {A = Option (List Base × ℕ)} (Some (bases, i + 1)) (letters_ahead bytes)
unfolding letters_ahead
letters_end bytes bases i within is before =
    let pair : List Base → Option (List Base × ℕ) = λ l. Some (l, i + 1) in
    let here : letters_ahead (drop i bytes) ≡ Some ([], 1) = ap letters_ahead (next_byte bytes i within) ∙ rw is refl in
    ap pair (sym (append-nil bases)) ∙ sym (ap (with_front bases i) here) ∙ before

pub letters_none : (bytes : List ℕ) (bases : List Base) (i : ℕ) → i < length bytes → get_or bytes i 0 == 62 ≡ false → base_of (get_or bytes i 0) ≡ None → with_front bases i (letters_ahead (drop i bytes)) ≡ letters_ahead bytes
    → letters_ahead bytes ≡ None
unfolding letters_ahead
letters_none bytes bases i within is none before =
    let here : letters_ahead (drop i bytes) ≡ None = ap letters_ahead (next_byte bytes i within) ∙ rw is (rw none refl) in
    sym before ∙ ap (with_front bases i) here

pub letters_more : (bytes : List ℕ) (bases : List Base) (i : ℕ) (base : Base) → i < length bytes → get_or bytes i 0 == 62 ≡ false → base_of (get_or bytes i 0) ≡ Some base → with_front bases i (letters_ahead (drop i bytes)) ≡ letters_ahead bytes
    → with_front (bases ++ base ∷ []) (i + 1) (letters_ahead (drop (i + 1) bytes)) ≡ letters_ahead bytes
unfolding letters_ahead
letters_more bytes bases i base within is letter before =
    let here : letters_ahead (drop i bytes) ≡ option_map {U = List Base × ℕ} (λ (s : List Base × ℕ). (base ∷ s.0, s.1 + 1)) (letters_ahead (drop (i + 1) bytes)) =
    ap letters_ahead (next_byte bytes i within) ∙ rw is (rw letter refl) in
    sym (front_more bases i base (letters_ahead (drop (i + 1) bytes))) ∙ sym (ap (with_front bases i) here) ∙ before

-- the digits of a number

pub digits_end : (rest : List ℕ) (first n i : ℕ) → i < length rest → is_digit (get_or rest i 0) ≡ false → digits_ahead n (i + 1) (drop i rest) ≡ digits_ahead first 1 rest → ◌≡◌ {A = Option (ℕ × ℕ)} (Some (n, i + 1)) (digits_ahead first 1 rest)
digits_end rest first n i within other before = sym (digits_stop n (i + 1) (drop i rest) (subst NoDigit (sym (next_byte rest i within)) other)) ∙ before

digits_step : (rest : List ℕ) (n i : ℕ) (next : Option ℕ) → i < length rest → is_digit (get_or rest i 0) ≡ true → with_digit n (get_or rest i 0) ≡ next
    → digits_ahead n (i + 1) (drop i rest) ≡ option_and_then (λ more. digits_ahead more (i + 1 + 1) (drop (i + 1) rest)) next
digits_step rest n i next within digit is =
    ap (digits_ahead n (i + 1)) (next_byte rest i within) ∙ digits_on n (i + 1) (get_or rest i 0) (drop (i + 1) rest) digit ∙ ap (option_and_then (λ more. digits_ahead more (i + 1 + 1) (drop (i + 1) rest))) is

pub digits_none : (rest : List ℕ) (first n i : ℕ) → i < length rest → is_digit (get_or rest i 0) ≡ true → with_digit n (get_or rest i 0) ≡ None → digits_ahead n (i + 1) (drop i rest) ≡ digits_ahead first 1 rest → digits_ahead first 1 rest ≡ None
digits_none rest first n i within digit none before = sym before ∙ digits_step rest n i None within digit none

pub digits_more : (rest : List ℕ) (first n i next : ℕ) → i < length rest → is_digit (get_or rest i 0) ≡ true → with_digit n (get_or rest i 0) ≡ Some next → digits_ahead n (i + 1) (drop i rest) ≡ digits_ahead first 1 rest
    → digits_ahead next (i + 1 + 1) (drop (i + 1) rest) ≡ digits_ahead first 1 rest
digits_more rest first n i next within digit some before = sym (digits_step rest n i (Some next) within digit some) ∙ before

pub digits_all : (rest : List ℕ) (first n i : ℕ) → length rest ≤ i → i ≤ length rest → digits_ahead n (i + 1) (drop i rest) ≡ digits_ahead first 1 rest → ◌≡◌ {A = Option (ℕ × ℕ)} (Some (n, length rest + 1)) (digits_ahead first 1 rest)
digits_all rest first n i all most before =
    let pair : ℕ → Option (ℕ × ℕ) = λ k. Some (n, k + 1) in
    let end : length rest ≡ i = omega arith in
    ap pair end ∙ sym (digits_stop n (i + 1) [] tt) ∙ ap (digits_ahead n (i + 1)) (sym (drop_all i rest all)) ∙ before
