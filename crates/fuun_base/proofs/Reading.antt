-- What a DNA file's bytes say, byte by byte and block by block.
use Rattle.std.proofs.Common.{◌≡◌, ℕ, ◌+◌, ◌-◌, ◌<◌, ◌≤◌, Bool, List, [], ◌∷◌, ◌++◌, Option, Some, None, true, false, length, take, drop, set, get_or, slice_range, arith, refl, sym, ap, ◌∙◌, inl, inr, add-one, append_assoc, append-nil, drop-cons, length-append}
use Rattle.std.specs.Prelude.{is_some}
use Rattle.std.specs.List.{list_all, position_or_len, cons_option}
use Rattle.std.proofs.Math.Seq.{set-append_seam, take-add}
use Rattle.std.proofs.lemmas.List.{take_more, get_or-take, get_or-drop, take-take}
use Rattle.std.proofs.lemmas.List.Sums.{position_or_len_is, AllPass-from_list_all}
use Rattle.std.proofs.lemmas.List.Elements.{filter_map-append}
use Rattle.std.proofs.lemmas.Bool.{lt-ltb, le-ltb, cases_lt}
use Rattle.fuun_base.specs.declared.letters.Base.{Base}
use Rattle.fuun_base.specs.Letter.{base_of, is_letter}
use Rattle.fuun_base.specs.DnaFile.{bases, first_other, is_other, is_skipped}

-- each byte below a place is a letter or a blank
abbrev pub AreClean : List ℕ → ℕ → Type 0
AreClean bytes place = (k : ℕ) → k < place → is_other (get_or bytes k 0) ≡ false

pub first_other_at : (bytes : List ℕ) (place : ℕ) → place < length bytes → AreClean bytes place → is_other (get_or bytes place 0) ≡ true → first_other bytes ≡ Some place
first_other_at bytes place within before other =
    let here : position_or_len is_other bytes ≡ place = position_or_len_is is_other bytes place 0 (omega arith) before (λ _. other) in
    rw here (rw (lt-ltb place (length bytes) within) refl)

pub no_other : (bytes : List ℕ) (place : ℕ) → length bytes ≤ place → AreClean bytes place → first_other bytes ≡ None
no_other bytes place all clean =
    let here : position_or_len is_other bytes ≡ length bytes =
    position_or_len_is is_other bytes (length bytes) 0 (omega arith) (λ k h. clean k (omega arith)) (λ h. absurd (omega arith)) in
    let past : length bytes ≤ position_or_len is_other bytes = omega arith in
    rw (le-ltb (position_or_len is_other bytes) (length bytes) past) refl

-- a byte of a block
at_block : (bytes : List ℕ) (done end k : ℕ) → done + k < end → get_or (slice_range bytes done end) k 0 ≡ get_or bytes (done + k) 0
at_block bytes done end k within =
    let short : k < end - done = omega arith in
    get_or-take (end - done) (drop done bytes) k 0 short ∙ get_or-drop done bytes k 0

-- a block's front goes on from what was read before it
pub clean_more : (bytes : List ℕ) (done end count : ℕ) → done + count ≤ end → AreClean bytes done → AreClean (slice_range bytes done end) count → AreClean bytes (done + count)
clean_more bytes done end count within before here k lt =
    elim (cases_lt k done) as (λ _. is_other (get_or bytes k 0) ≡ false) [
      | inl h ↦ before k h
      | inr h ↦
          let there : done + (k - done) ≡ k = omega arith in
          ap (λ n. is_other (get_or bytes n 0)) (sym there) ∙ ap is_other (sym (at_block bytes done end (k - done) (omega arith))) ∙ here (k - done) (omega arith)
    ]

pub stops_at : (bytes : List ℕ) (done end count : ℕ) → done + count < end → is_other (get_or (slice_range bytes done end) count 0) ≡ true → is_other (get_or bytes (done + count) 0) ≡ true
stops_at bytes done end count within here = ap is_other (sym (at_block bytes done end count within)) ∙ here

-- the bases of a block's front come after those read before it
pub bases_on : (bytes : List ℕ) (done end count : ℕ) → done + count ≤ end → bases (take done bytes) ++ bases (take count (slice_range bytes done end)) ≡ bases (take (done + count) bytes)
bases_on bytes done end count within =
    let part : take count (take (end - done) (drop done bytes)) ≡ take count (drop done bytes) = take-take count (end - done) (drop done bytes) (omega arith) in
    sym (filter_map-append base_of (take done bytes) (take count (slice_range bytes done end)))
    ∙ ap (λ rest. bases (take done bytes ++ rest)) part
    ∙ ap bases (sym (take-add done count bytes))

pub bases_more : (bytes : List ℕ) (place : ℕ) (base : Base) → place < length bytes → base_of (get_or bytes place 0) ≡ Some base → bases (take (place + 1) bytes) ≡ bases (take place bytes) ++ base ∷ []
bases_more bytes place base within is =
    rw (take_more bytes place 0 within) (rw (filter_map-append base_of (take place bytes) (get_or bytes place 0 ∷ [])) (rw is refl))

-- after the bases of what stands before a place, that of the letter there
pub appended_more : (old out : List Base) (bytes : List ℕ) (place : ℕ) (base : Base) → place < length bytes → base_of (get_or bytes place 0) ≡ Some base → out ≡ old ++ bases (take place bytes) → out ++ base ∷ [] ≡ old ++ bases (take (place + 1) bytes)
appended_more old out bytes place base within is before =
    rw before (append_assoc old (bases (take place bytes)) (base ∷ []) ∙ ap (λ d. old ++ d) (sym (bases_more bytes place base within is)))

pub bases_same : (bytes : List ℕ) (place : ℕ) → place < length bytes → base_of (get_or bytes place 0) ≡ None → bases (take (place + 1) bytes) ≡ bases (take place bytes)
bases_same bytes place within is =
    rw (take_more bytes place 0 within) (rw (filter_map-append base_of (take place bytes) (get_or bytes place 0 ∷ [])) (rw is (append-nil (bases (take place bytes)))))

at_most_one : (found : Option Base) (rest : List Base) → length (cons_option found rest) ≤ 1 + length rest
at_most_one None rest = omega arith
at_most_one (Some base) rest = omega arith

pub length-bases_le : (bytes : List ℕ) → length (bases bytes) ≤ length bytes
length-bases_le [] = omega arith
length-bases_le (byte ∷ bytes) = omega (arith, at_most_one (base_of byte) (bases bytes), length-bases_le bytes)

-- a letter is no other byte
other_of_letter : (byte : ℕ) → is_letter byte ≡ true → is_other byte ≡ false
other_of_letter byte is = rw is refl

pub other_of_base : (byte : ℕ) (base : Base) → base_of byte ≡ Some base → is_other byte ≡ false
other_of_base byte base is = other_of_letter byte (ap is_some is)

pub other_of_skipped : (byte : ℕ) (skipped : Bool) → base_of byte ≡ None → skipped ≡ is_skipped byte → skipped ≡ true → is_other byte ≡ false
other_of_skipped byte skipped is same so =
    let here : is_skipped byte ≡ true = sym same ∙ so in
    rw is (rw here refl)

pub letter_at : (block : List ℕ) (i : ℕ) → i < length block → list_all is_letter block ≡ true → is_letter (get_or block i 0) ≡ true
letter_at block i within all = AllPass-from_list_all is_letter block all i 0 within

pub clean_of_letters : (block : List ℕ) → list_all is_letter block ≡ true → AreClean block (length block)
clean_of_letters block all k lt = other_of_letter (get_or block k 0) (letter_at block k lt all)

-- the base of one letter more
pub filled_more : (block : List ℕ) (old out : List Base) (i : ℕ) (base : Base) → i < length block → length old ≡ length block → base_of (get_or block i 0) ≡ Some base → length (bases (take i block)) ≡ i → out ≡ bases (take i block) ++ drop i old → set out i base ≡ bases (take (i + 1) block) ++ drop (i + 1) old
filled_more block old out i base within same is count before =
    let front : List Base = bases (take i block) in
    let inside : i < length old = omega arith in
    let rest : drop i old ≡ get_or old i base ∷ drop (i + 1) old = rw (add-one, drop-cons old i base inside) refl in
    let was : out ≡ front ++ get_or old i base ∷ drop (i + 1) old = before ∙ ap (λ r. front ++ r) rest in
    let wrote : set (front ++ get_or old i base ∷ drop (i + 1) old) (length front) base ≡ front ++ base ∷ drop (i + 1) old = set-append_seam front (get_or old i base) (drop (i + 1) old) base in
    rw was (rw (bases_more block i base within is) (rw append_assoc (rw count at wrote)))

pub count_more : (block : List ℕ) (i : ℕ) (base : Base) → i < length block → base_of (get_or block i 0) ≡ Some base → length (bases (take i block)) ≡ i → length (bases (take (i + 1) block)) ≡ i + 1
count_more block i base within is count =
    omega (arith, count, ap length (bases_more block i base within is), length-append (bases (take i block)) (base ∷ []))
