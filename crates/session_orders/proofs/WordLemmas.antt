-- The first word of a text.
use Rattle.std.proofs.Common.{◌≡◌, ℕ, suc, ◌+◌, ◌<◌, ◌≤◌, Bool, true, false, List, [], ◌∷◌, Some, None, length, take, drop, arith, refl, ap, sym, ◌∙◌, subst, length-take-le, slice_range}
use Rattle.std.specs.Prelude.{filter, nat_lt, not, position, unwrap_or}
use Rattle.std.specs.List.{position_or_len}
use Rattle.std.proofs.lemmas.Bool.{ltb-false, ltb-true, lt-ltb}
use Rattle.std.proofs.lemmas.Option.{none-some, same_Some}
use Rattle.std.proofs.lemmas.List.{drop_all, take_rest}
use Rattle.std.proofs.lemmas.List.Sums.{prefix_len-le-length}
use Rattle.fuun_base.specs.Letter.{is_blank}
use Rattle.session_orders.specs.Words.{before_parts, is_no_blank, is_word, parts, words}

-- the first place that passes, or the length of the list
len_by : (test : ℕ → Bool) (text : List ℕ) (found : Bool) → nat_lt (position_or_len test text) (length text) ≡ found → position_or_len test text ≤ length text → unwrap_or (position test text) (length text) ≡ position_or_len test text
len_by test text true is within = rw is refl
len_by test text false is within =
    let past : length text ≤ position_or_len test text = ltb-false (position_or_len test text) (length text) is in
    rw is (omega arith)

first_len : (test : ℕ → Bool) (text : List ℕ) → unwrap_or (position test text) (length text) ≡ position_or_len test text
first_len test text = len_by test text (nat_lt (position_or_len test text) (length text)) refl (prefix_len-le-length (λ x. not (test x)) text)

-- the first part ends at the first blank
part_by : (byte : ℕ) (text : List ℕ) (blank : Bool) → is_blank byte ≡ blank
    → (0 < length text → parts text ≡ take (position_or_len is_blank text) text ∷ parts (drop (position_or_len is_blank text + 1) text))
    → parts (byte ∷ text) ≡ take (position_or_len is_blank (byte ∷ text)) (byte ∷ text) ∷ parts (drop (position_or_len is_blank (byte ∷ text) + 1) (byte ∷ text))
part_by byte text true is later = rw is refl
part_by byte [] false is later = rw is refl
part_by byte (b ∷ text) false is later =
    let k = position_or_len is_blank (b ∷ text) in
    let one : 1 + k ≡ suc k = omega arith in
    let two : 1 + k + 1 ≡ suc (k + 1) = omega arith in
    rw is (rw (two, one) (ap (before_parts byte) (later (omega arith))))

first_part : (text : List ℕ) → 0 < length text → parts text ≡ take (position_or_len is_blank text) text ∷ parts (drop (position_or_len is_blank text + 1) text)
first_part [] some = absurd (omega arith)
first_part (byte ∷ text) some = part_by byte text (is_blank byte) refl (first_part text)

-- the blank that ends a part is no word
end_by : (byte : ℕ) (text : List ℕ) (blank : Bool) → is_blank byte ≡ blank
    → words (drop (position_or_len is_blank text) text) ≡ words (drop (position_or_len is_blank text + 1) text)
    → words (drop (position_or_len is_blank (byte ∷ text)) (byte ∷ text)) ≡ words (drop (position_or_len is_blank (byte ∷ text) + 1) (byte ∷ text))
end_by byte text true is later = rw is (rw is refl)
end_by byte text false is later =
    let k = position_or_len is_blank text in
    let one : 1 + k ≡ suc k = omega arith in
    let two : 1 + k + 1 ≡ suc (k + 1) = omega arith in
    rw is (rw (two, one) later)

behind_end : (text : List ℕ) → words (drop (position_or_len is_blank text) text) ≡ words (drop (position_or_len is_blank text + 1) text)
behind_end [] = refl
behind_end (byte ∷ text) = end_by byte text (is_blank byte) refl (behind_end text)

-- blanks before a word say nothing
start_by : (byte : ℕ) (text : List ℕ) (blank : Bool) → is_blank byte ≡ blank
    → words text ≡ words (drop (position_or_len is_no_blank text) text)
    → words (byte ∷ text) ≡ words (drop (position_or_len is_no_blank (byte ∷ text)) (byte ∷ text))
start_by byte text true is later =
    let one : 1 + position_or_len is_no_blank text ≡ suc (position_or_len is_no_blank text) = omega arith in
    rw is (rw one later)
start_by byte text false is later = rw is (rw is refl)

from_start : (text : List ℕ) → words text ≡ words (drop (position_or_len is_no_blank text) text)
from_start [] = refl
from_start (byte ∷ text) = start_by byte text (is_blank byte) refl (from_start text)

-- a byte that is no blank begins a part of one byte or more
begins_by : (byte : ℕ) (text : List ℕ) (blank : Bool) → is_blank byte ≡ blank
    → (position_or_len is_no_blank text < length text → 0 < position_or_len is_blank (drop (position_or_len is_no_blank text) text))
    → position_or_len is_no_blank (byte ∷ text) < length (byte ∷ text)
    → 0 < position_or_len is_blank (drop (position_or_len is_no_blank (byte ∷ text)) (byte ∷ text))
begins_by byte text true is later within =
    let k = position_or_len is_no_blank text in
    let one : 1 + k ≡ suc k = omega arith in
    let here : 1 + k < length (byte ∷ text) = rw is at within in
    rw is (rw one (later (omega (arith, here))))
begins_by byte text false is later within = rw is (rw is (omega arith))

begins : (text : List ℕ) → position_or_len is_no_blank text < length text → 0 < position_or_len is_blank (drop (position_or_len is_no_blank text) text)
begins [] within = absurd (omega arith)
begins (byte ∷ text) within = begins_by byte text (is_blank byte) refl (begins text) within

-- a part that has bytes is a word
is_first : (part : List ℕ) (more : List (List ℕ)) → 0 < length part → filter is_word (part ∷ more) ≡ part ∷ filter is_word more
is_first part more some = rw (lt-ltb 0 (length part) some) refl

-- where no byte is no blank, there is no word
none_by : (text : List ℕ) (found : Bool) → nat_lt (position_or_len is_no_blank text) (length text) ≡ found → position is_no_blank text ≡ None → words text ≡ []
none_by text true is none = absurd (none-some (position_or_len is_no_blank text) (sym (rw is at none)))
none_by text false is none = from_start text ∙ ap words (drop_all (position_or_len is_no_blank text) text (ltb-false (position_or_len is_no_blank text) (length text) is))

pub no_words : (text : List ℕ) → position is_no_blank text ≡ None → words text ≡ []
no_words text none = none_by text (nat_lt (position_or_len is_no_blank text) (length text)) refl none

-- the word at the front of a text, and those behind it
front_word : (text : List ℕ) → 0 < position_or_len is_blank text → words text ≡ take (position_or_len is_blank text) text ∷ words (drop (position_or_len is_blank text) text)
front_word text some =
    let k = position_or_len is_blank text in
    let within : k ≤ length text = prefix_len-le-length (λ x. not (is_blank x)) text in
    let long : 0 < length (take k text) = rw (length-take-le k text within) some in
    ap (filter is_word) (first_part text (omega arith))
    ∙ is_first (take k text) (parts (drop (k + 1) text)) long
    ∙ ap (λ more. take k text ∷ more) (sym (behind_end text))

some_by : (text : List ℕ) (start : ℕ) (found : Bool) → nat_lt (position_or_len is_no_blank text) (length text) ≡ found → position is_no_blank text ≡ Some start → (position_or_len is_no_blank text ≡ start) × (position_or_len is_no_blank text < length text)
some_by text start true is at_start = (same_Some (position_or_len is_no_blank text) start (rw is at at_start), ltb-true (position_or_len is_no_blank text) (length text) is)
some_by text start false is at_start = absurd (none-some start (rw is at at_start))

-- the first word of a text, from its start to its end
cut_at : (text : List ℕ) (start len : ℕ) → position is_no_blank text ≡ Some start → len ≡ unwrap_or (position is_blank (drop start text)) (length (drop start text)) → words text ≡ take len (drop start text) ∷ words (drop len (drop start text))
cut_at text start len starts ends =
    let there = some_by text start (nat_lt (position_or_len is_no_blank text) (length text)) refl starts in
    let long : len ≡ position_or_len is_blank (drop start text) = ends ∙ first_len is_blank (drop start text) in
    let some : 0 < position_or_len is_blank (drop start text) = subst (λ n. 0 < position_or_len is_blank (drop n text)) there.0 (begins text there.1) in
    from_start text
    ∙ ap (λ n. words (drop n text)) there.0
    ∙ rw long (front_word (drop start text) some)

pub words_cut : (text rest : List ℕ) (start len : ℕ) → position is_no_blank text ≡ Some start → rest ≡ slice_range text start (length text) → len ≡ unwrap_or (position is_blank rest) (length rest) → words text ≡ take len rest ∷ words (drop len rest)
words_cut text rest start len starts part ends =
    let all : rest ≡ drop start text = part ∙ take_rest text start in
    rw all (cut_at text start len starts (rw all at ends))
