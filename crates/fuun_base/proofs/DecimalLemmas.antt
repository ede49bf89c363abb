-- A number in decimal, digit by digit.
use Rattle.std.proofs.Common.{◌≡◌, ℕ, ◌+◌, ◌*◌, ◌-◌, ◌<◌, ◌≤◌, Bool, true, false, List, length, take, get_or, arith, refl}
use Rattle.std.specs.Prelude.{◌&&◌, min, nat_le}
use Rattle.std.specs.Char.{digit_value}
use Rattle.std.specs.List.{list_all}
use Rattle.std.specs.Str.Parse.{digits_value}
use Rattle.std.proofs.lemmas.Bool.{leb-true}
use Rattle.std.proofs.lemmas.Int.Digits.{digits_value_more}
use Rattle.std.proofs.lemmas.List.Sums.{AllPass-from_list_all}
use Rattle.std.proofs.lemmas.Str.{digit_value_digit}
use Rattle.fuun_base.specs.Decimals.{is_digit}

pub both_true : (a b : Bool) → (a && b) ≡ true → (a ≡ true) × (b ≡ true)
both_true true b is = (refl, is)
both_true false b is = absurd (cc)

pub digit_range : (digits : List ℕ) (i : ℕ) → list_all is_digit digits ≡ true → i < length digits → (48 ≤ get_or digits i 0) × (get_or digits i 0 ≤ 57)
digit_range digits i all within =
    let here : is_digit (get_or digits i 0) ≡ true = AllPass-from_list_all is_digit digits all i 0 within in
    let parts = both_true (nat_le 48 (get_or digits i 0)) (nat_le (get_or digits i 0) 57) here in
    (leb-true 48 (get_or digits i 0) parts.0, leb-true (get_or digits i 0) 57 parts.1)

-- one digit more, where a value above the greatest is held as the first above it
pub value_more : (digits : List ℕ) (i most value digit : ℕ) → list_all is_digit digits ≡ true → i < length digits → digit ≡ get_or digits i 0 → value ≡ min (digits_value 10 (take i digits)) (most + 1)
    → min (value * 10 + (digit - 48)) (most + 1) ≡ min (digits_value 10 (take (i + 1) digits)) (most + 1)
value_more digits i most value digit all within digit_is value_is =
    let range = digit_range digits i all within in
    let low : 48 ≤ get_or digits i 0 = range.0 in
    let high : get_or digits i 0 ≤ 57 = range.1 in
    let one : digit_value (get_or digits i 0) + 48 ≡ get_or digits i 0 = digit_value_digit (get_or digits i 0) (low, high) in
    omega (arith, digits_value_more 10 digits i within, one, digit_is, value_is)
