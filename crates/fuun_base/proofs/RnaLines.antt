-- What the bytes of a line of an RNA file say, byte by byte.
use Rattle.std.proofs.Common.{◌≡◌, ℕ, ◌+◌, ◌<◌, ◌≤◌, Bool, true, false, List, [], ◌∷◌, ◌++◌, Option, Some, None, length, take, drop, set, get_or, arith, refl, sym, ap, ◌∙◌, add-one, append_assoc, append-nil, length-append, drop-cons}
use Rattle.std.specs.Prelude.{MatchOption, ◌&&◌}
use Rattle.std.specs.List.{list_all}
use Rattle.std.proofs.Math.Seq.{take-append_seam}
use Rattle.std.proofs.lemmas.Bool.{lt-leb, le-leb}
use Rattle.std.proofs.lemmas.List.Sums.{AllPass-from_list_all, list_all-from_AllPass}
use Rattle.std.proofs.lemmas.List.{drop_all, take_more_set}
use Rattle.fuun_base.specs.declared.letters.Base.{Base}
use Rattle.fuun_base.specs.Letter.{base_of, is_letter, is_blank}
use Rattle.fuun_base.proofs.Reading.{length-bases_le}
use Rattle.fuun_base.specs.RnaFile.{command_of, is_allowed, is_command}

next_byte : (line : List ℕ) (i : ℕ) → i < length line → drop i line ≡ get_or line i 0 ∷ drop (i + 1) line
next_byte line i within = rw (add-one, drop-cons line i 0 within) refl

-- an allowed byte is passed
pub allowed_more : (line : List ℕ) (i : ℕ) → i < length line → is_allowed (get_or line i 0) ≡ true → list_all is_allowed (drop i line) ≡ list_all is_allowed line → list_all is_allowed (drop (i + 1) line) ≡ list_all is_allowed line
allowed_more line i within good so_far =
    let here = rw (next_byte line i within) at so_far in
    rw good at here

-- a letter is one base more
pub letter_more : (line : List ℕ) (places : List Base) (i len : ℕ) (base : Base) → i < length line → len < length places → base_of (get_or line i 0) ≡ Some base → take len places ++ command_of (drop i line) ≡ command_of line → take (len + 1) (set places len base) ++ command_of (drop (i + 1) line) ≡ command_of line
letter_more line places i len base within room is so_far =
    let here = rw (next_byte line i within) at so_far in
    let there = rw is at here in
    let more : take (len + 1) (set places len base) ≡ take len places ++ base ∷ [] = take_more_set places len base room in
    rw more (append_assoc (take len places) (base ∷ []) (command_of (drop (i + 1) line)) ∙ there)

-- a blank is no base
pub blank_more : (line : List ℕ) (front : List Base) (i : ℕ) → i < length line → base_of (get_or line i 0) ≡ None → front ++ command_of (drop i line) ≡ command_of line → front ++ command_of (drop (i + 1) line) ≡ command_of line
blank_more line front i within is so_far =
    let here = rw (next_byte line i within) at so_far in
    rw is at here

no_and : (b : Bool) → (b && false) ≡ false
no_and true = refl
no_and false = refl

-- a byte that is neither letter nor blank
pub other_byte : (line : List ℕ) (i : ℕ) → i < length line → is_allowed (get_or line i 0) ≡ false → list_all is_allowed (drop i line) ≡ list_all is_allowed line → is_command line ≡ false
other_byte line i within other so_far =
    let here = rw (next_byte line i within) at so_far in
    let none = rw other at here in
    rw (sym none) refl

-- an eighth letter
pub eighth_letter : (line : List ℕ) (front : List Base) (i : ℕ) (base : Base) → i < length line → length front ≡ 7 → base_of (get_or line i 0) ≡ Some base → front ++ command_of (drop i line) ≡ command_of line → is_command line ≡ false
eighth_letter line front i base within seven is so_far =
    let here = rw (next_byte line i within) at so_far in
    let there = rw is at here in
    let long : 7 < length (command_of line) = omega (arith, ap length there, length-append front (base ∷ command_of (drop (i + 1) line))) in
    rw (lt-leb (length (command_of line)) 7 long) (no_and (list_all is_allowed line))

-- a line that was passed to its end
pub command_passed : (line : List ℕ) (front : List Base) (i : ℕ) → length line ≤ i → length front ≤ 7 → front ++ command_of (drop i line) ≡ command_of line → list_all is_allowed (drop i line) ≡ list_all is_allowed line → (front ≡ command_of line) × (is_command line ≡ true)
command_passed line front i past room so_far judged =
    let none : drop i line ≡ [] = drop_all i line past in
    let bases : front ≡ command_of line = sym (append-nil front) ∙ rw none at so_far in
    let good : list_all is_allowed line ≡ true = sym (rw none at judged) in
    let short : length (command_of line) ≤ 7 = omega (arith, ap length bases) in
    (bases, rw (good, le-leb (length (command_of line)) 7 short) refl)

-- a blank is allowed
pub blank_allowed : (byte : ℕ) (blank : Bool) → base_of byte ≡ None → blank ≡ is_blank byte → blank ≡ true → is_allowed byte ≡ true
blank_allowed byte blank is blank_is allowed =
    let here : is_blank byte ≡ true = sym blank_is ∙ allowed in
    rw is here

-- letters alone are allowed, each is one base
allowed_of_letters : (line : List ℕ) → list_all is_letter line ≡ true → list_all is_allowed line ≡ true
allowed_of_letters line letters =
    list_all-from_AllPass is_allowed line (λ k d lt. let here : is_letter (get_or line k d) ≡ true = AllPass-from_list_all is_letter line letters k d lt in rw here refl)

pub command_of_letters : (line : List ℕ) → length line ≤ 7 → list_all is_letter line ≡ true → is_command line ≡ true
command_of_letters line few letters =
    let short : length (command_of line) ≤ 7 = omega (arith, length-bases_le line) in
    rw (allowed_of_letters line letters, le-leb (length (command_of line)) 7 short) refl

pub at_seam : (front rest : List Base) (n : ℕ) → length front ≡ n → take n (front ++ rest) ≡ front
at_seam front rest n long = ap (λ k. take k (front ++ rest)) (sym long) ∙ take-append_seam front rest

pub read_letters : (line : List ℕ) (places : List Base) (read : Option (List Base)) → length line ≤ 7 → list_all is_letter line ≡ true → places ≡ command_of line → MatchOption read (7 < length places) (λ command. (command ≡ places) × (length places ≤ 7)) → MatchOption read (is_command line ≡ false) (λ command. (command ≡ command_of line) × (is_command line ≡ true))
read_letters line places None few letters are read =
    absurd (omega (arith, length-bases_le line, ap length are))
read_letters line places (Some command) few letters are read = (read.0 ∙ are, command_of_letters line few letters)
