-- The first line of a file.
use Rattle.std.proofs.Common.{◌≡◌, ℕ, suc, ◌+◌, ◌<◌, ◌≤◌, Bool, true, false, List, [], ◌∷◌, None, length, take, drop, arith, refl, ap, ◌∙◌}
use Rattle.std.specs.Prelude.{◌==◌, nat_lt, not, position, unwrap_or}
use Rattle.std.specs.List.{position_or_len}
use Rattle.std.proofs.lemmas.Bool.{ltb-false, le-ltb}
use Rattle.std.proofs.lemmas.List.Sums.{prefix_len-le-length}
use Rattle.fuun_base.specs.Lines.{before_lines, lines}

-- a byte is a line feed
abbrev is_feed : ℕ → Bool
is_feed byte = byte == 10

-- the first line ends at the first line feed
first_by : (byte : ℕ) (bytes : List ℕ) (feed : Bool) → is_feed byte ≡ feed → (0 < length bytes → lines bytes ≡ take (position_or_len is_feed bytes) bytes ∷ lines (drop (position_or_len is_feed bytes + 1) bytes)) → lines (byte ∷ bytes) ≡ take (position_or_len is_feed (byte ∷ bytes)) (byte ∷ bytes) ∷ lines (drop (position_or_len is_feed (byte ∷ bytes) + 1) (byte ∷ bytes))
first_by byte bytes true is later = rw is refl
first_by byte [] false is later = rw is refl
first_by byte (b ∷ bytes) false is later =
    let k = position_or_len is_feed (b ∷ bytes) in
    let one : 1 + k ≡ suc k = omega arith in
    let two : 1 + k + 1 ≡ suc (k + 1) = omega arith in
    rw is (rw (two, one) (ap (before_lines byte) (later (omega arith))))

lines_first : (bytes : List ℕ) → 0 < length bytes → lines bytes ≡ take (position_or_len is_feed bytes) bytes ∷ lines (drop (position_or_len is_feed bytes + 1) bytes)
lines_first [] some = absurd (omega arith)
lines_first (byte ∷ bytes) some = first_by byte bytes (is_feed byte) refl (lines_first bytes)

len_by : (bytes : List ℕ) (found : Bool) → nat_lt (position_or_len is_feed bytes) (length bytes) ≡ found → position_or_len is_feed bytes ≤ length bytes → unwrap_or (position is_feed bytes) (length bytes) ≡ position_or_len is_feed bytes
len_by bytes true is within = rw is refl
len_by bytes false is within =
    let past : length bytes ≤ position_or_len is_feed bytes = ltb-false (position_or_len is_feed bytes) (length bytes) is in
    rw is (omega arith)

-- how long the first line is
first_len : (bytes : List ℕ) (end : ℕ) → end ≡ unwrap_or (position is_feed bytes) (length bytes) → end ≡ position_or_len is_feed bytes
first_len bytes end is = is ∙ len_by bytes (nat_lt (position_or_len is_feed bytes) (length bytes)) refl (prefix_len-le-length (λ x. not (is_feed x)) bytes)

-- no line feed stands before the first
none_by : (byte : ℕ) (bytes : List ℕ) (feed : Bool) → is_feed byte ≡ feed
    → position_or_len is_feed (take (position_or_len is_feed bytes) bytes) ≡ length (take (position_or_len is_feed bytes) bytes)
    → position_or_len is_feed (take (position_or_len is_feed (byte ∷ bytes)) (byte ∷ bytes)) ≡ length (take (position_or_len is_feed (byte ∷ bytes)) (byte ∷ bytes))
none_by byte bytes true is later = rw is refl
none_by byte bytes false is later =
    let one : 1 + position_or_len is_feed bytes ≡ suc (position_or_len is_feed bytes) = omega arith in
    rw is (rw one (rw is (omega (arith, later))))

none_before : (bytes : List ℕ) → position_or_len is_feed (take (position_or_len is_feed bytes) bytes) ≡ length (take (position_or_len is_feed bytes) bytes)
none_before [] = refl
none_before (byte ∷ bytes) = none_by byte bytes (is_feed byte) refl (none_before bytes)

pub no_feed : (bytes : List ℕ) (end : ℕ) → end ≡ unwrap_or (position is_feed bytes) (length bytes) → position is_feed (take end bytes) ≡ None
no_feed bytes end is =
    let all = none_before bytes in
    rw (first_len bytes end is) (rw (le-ltb (position_or_len is_feed (take (position_or_len is_feed bytes) bytes)) (length (take (position_or_len is_feed bytes) bytes)) (omega (arith, all))) refl)

-- the first line, and the lines behind it
pub first_of_lines : (bytes : List ℕ) (end : ℕ) → 0 < length bytes → end ≡ unwrap_or (position is_feed bytes) (length bytes) → lines bytes ≡ take end bytes ∷ lines (drop (end + 1) bytes)
first_of_lines bytes end some is = rw (first_len bytes end is) (lines_first bytes some)
