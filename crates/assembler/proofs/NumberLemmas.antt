-- Numbers in a text.
use Rattle.std.proofs.Common.{◌≡◌, ℕ, zero, suc, ◌+◌, ◌-◌, ◌*◌, ◌/◌, ◌%◌, ◌^◌, ◌<◌, ◌≤◌, inl, inr, ◌==◌, true, false, Option, Some, None, option_and_then, decimal, List, [], ◌∷◌, ◌++◌, length, drop, arith, refl, sym, ap, subst, ◌∙◌, append_assoc, append-nil, length-append, true≢false}
use Rattle.std.specs.Prelude.{nat_lt, if◌then◌else◌}
use Rattle.std.proofs.lemmas.Bool.{cases_lt, cases_Bool, ltb-true, lt-ltb, le-leb, leb-true, eqb-true, eqb-false, eq-eqb, ne_eqb, and_parts, and_from, both_ways}
use Rattle.std.proofs.lemmas.Fmt.{decimal_step, decimal_digit}
use Rattle.std.proofs.lemmas.Option.{none-some, same_Some, cond_some}
use Rattle.std.proofs.Math.Seq.{drop-append_seam}
use Rattle.fuun_base.specs.Decimals.{is_digit}
use Rattle.assembler.specs.Ahead.{with_digit, digits_ahead, number_ahead, stands, ended_ahead}
use Rattle.assembler.proofs.Readers.{chained, Fronts, fronts, fronts_both, NoDigit}

-- digits

pub digit_is : (byte : ℕ) → 48 ≤ byte → byte ≤ 57 → is_digit byte ≡ true
digit_is byte low high = and_from _ _ (le-leb 48 byte low) (le-leb byte 57 high)

pub digit_range : (byte : ℕ) → is_digit byte ≡ true → (48 ≤ byte) × (byte ≤ 57)
digit_range byte is = let parts = and_parts _ _ is in (leb-true 48 byte parts.0, leb-true byte 57 parts.1)

with_small : (n byte : ℕ) → n * 10 + (byte - 48) < 2 ^ 63 → with_digit n byte ≡ Some (n * 10 + (byte - 48))
with_small n byte small = rw (lt-ltb (n * 10 + (byte - 48)) (2 ^ 63) small) refl

with_is : (n byte more : ℕ) → with_digit n byte ≡ Some more → (more < 2 ^ 63) × (n * 10 + (byte - 48) ≡ more)
with_is n byte more is =
    let parts = cond_some (nat_lt (n * 10 + (byte - 48)) (2 ^ 63)) (n * 10 + (byte - 48)) more is in
    let small = ltb-true (n * 10 + (byte - 48)) (2 ^ 63) parts.0 in
    (omega (arith, parts.1), parts.1)

-- the digits go on, or stop

pub digits_on : (n count byte : ℕ) (bytes : List ℕ) → is_digit byte ≡ true → digits_ahead n count (byte ∷ bytes) ≡ option_and_then (λ more. digits_ahead more (count + 1) bytes) (with_digit n byte)
unfolding digits_ahead
digits_on n count byte bytes is = rw is refl

pub digits_stop : (n count : ℕ) (bytes : List ℕ) → NoDigit bytes → digits_ahead n count bytes ≡ Some (n, count)
unfolding digits_ahead
digits_stop n count [] bars = refl
digits_stop n count (byte ∷ bytes) bars = rw bars refl

-- a number in front

pub zero_ahead : (bytes : List ℕ) → number_ahead (48 ∷ bytes) ≡ Some (0, 1)
unfolding number_ahead
zero_ahead bytes = refl

pub first_ahead : (byte : ℕ) (bytes : List ℕ) → (byte ≡ 48 → ⊥) → is_digit byte ≡ true → number_ahead (byte ∷ bytes) ≡ digits_ahead (byte - 48) 1 bytes
unfolding number_ahead
first_ahead byte bytes other is = rw (ne_eqb byte 48 other) (rw is refl)

pub no_number : (byte : ℕ) (bytes : List ℕ) → is_digit byte ≡ false → number_ahead (byte ∷ bytes) ≡ None
unfolding number_ahead
no_number byte bytes bars =
    let other : byte ≡ 48 → ⊥ = λ e. both_ways (is_digit byte) bars (digit_is byte (omega arith) (omega arith)) in
    rw (ne_eqb byte 48 other) (rw bars refl)

-- the decimal text of a number, digit by digit

number_within : (most n : ℕ) (rest : List ℕ) → n ≤ most → 0 < n → n < 2 ^ 63 → number_ahead (decimal n ++ rest) ≡ digits_ahead n (length (decimal n)) rest
number_within most zero rest few some small = absurd (omega arith)
number_within zero (suc n) rest few some small = absurd (omega arith)
number_within (suc most) (suc n) rest few some small =
    let m : ℕ = suc n in
    elim (cases_lt m 10) as (λ _. number_ahead (decimal m ++ rest) ≡ digits_ahead m (length (decimal m)) rest) [
      | inl one ↦
          let is : decimal m ≡ (48 + m) ∷ [] = decimal_digit m one in
          let back : 48 + m - 48 ≡ m = omega arith in
          ap (λ l. number_ahead (l ++ rest)) is
          ∙ first_ahead (48 + m) rest (λ e. omega arith) (digit_is (48 + m) (omega arith) (omega arith))
          ∙ ap (λ k. digits_ahead k 1 rest) back
          ∙ ap (λ l. digits_ahead m (length l) rest) (sym is)
      | inr more ↦
          let tens : ℕ = m / 10 in
          let digit : ℕ = 48 + m % 10 in
          let is : decimal m ≡ decimal tens ++ (digit ∷ []) = decimal_step m more (omega arith) in
          let whole : tens * 10 + (digit - 48) ≡ m = omega arith in
          let next : with_digit tens digit ≡ Some m = with_small tens digit (omega arith) ∙ ap (λ k. Some k) whole in
          let long : length (decimal tens) + 1 ≡ length (decimal m) = omega (arith, ap length is, length-append (decimal tens) (digit ∷ [])) in
          ap (λ l. number_ahead (l ++ rest)) is
          ∙ ap number_ahead (append_assoc (decimal tens) (digit ∷ []) rest)
          ∙ number_within most tens (digit ∷ rest) (omega arith) (omega arith) (omega arith)
          ∙ digits_on tens (length (decimal tens)) digit rest (digit_is digit (omega arith) (omega arith))
          ∙ ap (λ o. option_and_then (λ k. digits_ahead k (length (decimal tens) + 1) rest) o) next
          ∙ ap (λ k. digits_ahead m k rest) long
    ]

-- a small number is found before anything that is no digit
pub number_finds : (n : ℕ) (rest : List ℕ) → n < 2 ^ 63 → NoDigit rest → number_ahead (decimal n ++ rest) ≡ Some (n, length (decimal n))
number_finds zero rest small bars =
    let is : decimal 0 ≡ 48 ∷ [] = decimal_digit 0 (omega arith) in
    let pair : ℕ → Option (ℕ × ℕ) = λ k. Some (0, k) in
    ap (λ l. number_ahead (l ++ rest)) is ∙ zero_ahead rest ∙ ap (λ l. pair (length l)) (sym is)
number_finds (suc n) rest small bars = number_within (suc n) (suc n) rest (omega arith) (omega arith) small ∙ digits_stop (suc n) (length (decimal (suc n))) rest bars

-- what follows the digits of m, where they go on to those of n
record GoesOn (m count : ℕ) (bytes : List ℕ) (found : ℕ × ℕ) : Type 0 where
  more : List ℕ
  rest : List ℕ
  whole : bytes ≡ more ++ rest
  text : decimal found.0 ≡ decimal m ++ more
  len : found.1 ≡ count + length more
  small : found.0 < 2 ^ 63

stopped : (m count : ℕ) (bytes : List ℕ) (found : ℕ × ℕ) → m < 2 ^ 63 → ◌≡◌ {A = ℕ × ℕ} (m, count) found → GoesOn m count bytes found
stopped m count bytes found small e =
    let value : m ≡ found.0 = ap (λ (p : ℕ × ℕ). p.0) e in
    let len : count ≡ found.1 = ap (λ (p : ℕ × ℕ). p.1) e in
    record {
      more = [];
      rest = bytes;
      whole = refl;
      text = ap decimal (sym value) ∙ sym (append-nil (decimal m));
      len = omega arith;
      small = omega arith;
    }

one_more : (m byte more : ℕ) → 0 < m → is_digit byte ≡ true → more < 2 ^ 63 → m * 10 + (byte - 48) ≡ more → decimal more ≡ decimal m ++ (byte ∷ [])
one_more m byte more some is small whole =
    let range = digit_range byte is in
    let tens : more / 10 ≡ m = omega (arith, range.0, range.1) in
    let digit : 48 + more % 10 ≡ byte = omega (arith, range.0, range.1) in
    decimal_step more (omega arith) (omega arith) ∙ ap (λ k. decimal k ++ ((48 + more % 10) ∷ [])) tens ∙ ap (λ k. decimal m ++ (k ∷ [])) digit

digits_found : (m count : ℕ) (bytes : List ℕ) (found : ℕ × ℕ) → 0 < m → m < 2 ^ 63 → digits_ahead m count bytes ≡ Some found → GoesOn m count bytes found
digits_found m count [] found some small is = stopped m count [] found small (same_Some {A = ℕ × ℕ} (m, count) found (sym (digits_stop m count [] tt) ∙ is))
digits_found m count (byte ∷ bytes) found some small is =
    elim (cases_Bool (is_digit byte)) [
      | inl digit ↦
          let next = chained (λ k. digits_ahead k (count + 1) bytes) (with_digit m byte) found (sym (digits_on m count byte bytes digit) ∙ is) in
          let value = with_is m byte next.0 next.1 in
          let behind = digits_found next.0 (count + 1) bytes found (omega (arith, value.1)) value.0 next.2 in
          let b = behind.len in
          record {
            more = byte ∷ behind.more;
            rest = behind.rest;
            whole = ap (λ l. byte ∷ l) behind.whole;
            text = behind.text ∙ ap (λ l. l ++ behind.more) (one_more m byte next.0 some digit value.0 value.1) ∙ append_assoc (decimal m) (byte ∷ []) behind.more;
            len = omega arith;
            small = behind.small;
          }
      | inr bars ↦ stopped m count (byte ∷ bytes) found small (same_Some {A = ℕ × ℕ} (m, count) found (sym (digits_stop m count (byte ∷ bytes) bars) ∙ is))
    ]

-- what is found is the text of a small number
pub number_found : (bytes : List ℕ) (found : ℕ × ℕ) → number_ahead bytes ≡ Some found → (found.0 < 2 ^ 63) × Fronts bytes (decimal found.0) found.1
unfolding number_ahead
number_found [] found is = absurd (none-some found is)
number_found (byte ∷ bytes) found is =
    elim (cases_Bool (byte == 48)) [
      | inl zero_is ↦
          let byte_is : byte ≡ 48 = eqb-true byte 48 zero_is in
          let same : ◌≡◌ {A = ℕ × ℕ} (0, 1) found = same_Some {A = ℕ × ℕ} (0, 1) found (rw zero_is at is) in
          let text : decimal 0 ≡ 48 ∷ [] = decimal_digit 0 (omega arith) in
          subst (λ (p : ℕ × ℕ). (p.0 < 2 ^ 63) × Fronts (byte ∷ bytes) (decimal p.0) p.1) same
          (omega arith, fronts (byte ∷ bytes) (decimal 0) bytes 1 (ap (λ b. b ∷ bytes) byte_is ∙ ap (λ l. l ++ bytes) (sym text)) (sym (ap length text)))
      | inr other ↦
          elim (cases_Bool (is_digit byte)) [
            | inl digit ↦
                let range = digit_range byte digit in
                let not_zero : byte ≡ 48 → ⊥ = λ e. eqb-false byte 48 other e in
                let first : ℕ = byte - 48 in
                let one : decimal first ≡ byte ∷ [] = decimal_digit first (omega (arith, range.1)) ∙ ap (λ b. b ∷ []) (omega (arith, range.0)) in
                let goes = digits_found first 1 bytes found (omega (arith, range.0, not_zero)) (omega (arith, range.1)) (rw (other, digit) at is) in
                let text : decimal found.0 ≡ byte ∷ goes.more = goes.text ∙ ap (λ l. l ++ goes.more) one in
                let l = goes.len in
                (goes.small, fronts (byte ∷ bytes) (decimal found.0) goes.rest found.1 (ap (λ l. byte ∷ l) goes.whole ∙ ap (λ l. l ++ goes.rest) (sym text)) (omega (arith, ap length text)))
            | inr bars ↦ absurd (none-some found (rw (other, bars) at is))
          ]
    ]

-- a number and the byte that ends it

pub ended_finds : (end n : ℕ) (rest : List ℕ) → is_digit end ≡ false → n < 2 ^ 63 → ended_ahead end ((decimal n ++ (end ∷ [])) ++ rest) ≡ Some (n, length (decimal n ++ (end ∷ [])))
unfolding ended_ahead
ended_finds end n rest bars small =
    let number : number_ahead ((decimal n ++ (end ∷ [])) ++ rest) ≡ Some (n, length (decimal n)) =
    ap number_ahead (append_assoc (decimal n) (end ∷ []) rest) ∙ number_finds n (end ∷ rest) small bars in
    let behind : drop (length (decimal n)) ((decimal n ++ (end ∷ [])) ++ rest) ≡ end ∷ rest =
    ap (drop (length (decimal n))) (append_assoc (decimal n) (end ∷ []) rest) ∙ drop-append_seam (decimal n) (end ∷ rest) in
    let long : length (decimal n) + 1 ≡ length (decimal n ++ (end ∷ [])) = omega (arith, length-append (decimal n) (end ∷ [])) in
    let pair : ℕ → Option (ℕ × ℕ) = λ k. Some (n, k) in
    rw number (rw behind (rw (eq-eqb end end refl) (ap pair long)))

stands_is : (end : ℕ) (bytes : List ℕ) → stands end bytes ≡ true → bytes ≡ end ∷ drop 1 bytes
stands_is end [] is = absurd (true≢false (sym is))
stands_is end (byte ∷ bytes) is = ap (λ b. b ∷ bytes) (eqb-true byte end is)

pub ended_found : (end : ℕ) (bytes : List ℕ) (found : ℕ × ℕ) → ended_ahead end bytes ≡ Some found → (found.0 < 2 ^ 63) × Fronts bytes (decimal found.0 ++ (end ∷ [])) found.1
unfolding ended_ahead
ended_found end bytes found is =
    let first = chained (λ (n : ℕ × ℕ). if stands end (drop n.1 bytes) then Some (n.0, n.1 + 1) else None) (number_ahead bytes) found is in
    let number = number_found bytes first.0 first.1 in
    let next : ℕ × ℕ = (first.0.0, first.0.1 + 1) in
    let parts = cond_some (stands end (drop first.0.1 bytes)) next found first.2 in
    let behind : Fronts (drop first.0.1 bytes) (end ∷ []) 1 = fronts (drop first.0.1 bytes) (end ∷ []) (drop 1 (drop first.0.1 bytes)) 1 (stands_is end (drop first.0.1 bytes) parts.0) refl in
    subst (λ (p : ℕ × ℕ). (p.0 < 2 ^ 63) × Fronts bytes (decimal p.0 ++ (end ∷ [])) p.1) parts.1
    (number.0, fronts_both bytes (decimal first.0.0) (end ∷ []) first.0.1 1 number.1 behind)
