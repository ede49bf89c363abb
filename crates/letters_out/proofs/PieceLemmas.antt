-- Letters that are put some at a time.
use Rattle.std.proofs.Common.{◌≡◌, ℕ, ◌+◌, ◌-◌, ◌≤◌, List, ◌++◌, length, take, drop, map, Option, Result, Ok, Err, sym, ap, ◌∙◌, subst, arith, length-drop, take-append-drop}
use Rattle.std.specs.Prelude.{slice_range}
use Rattle.std.proofs.lemmas.List.{drop-drop, drop-take, length-take-le, length-map, take-map, drop-map, take_at, take-take}
use Rattle.fuun_base.specs.declared.letters.Base.{Base}
use Rattle.fuun_base.specs.Letter.{letter_of}
use Rattle.fuun_io.specs.Written.{appended, Puts, PutsFront}
use Rattle.fuun_io.proofs.WrittenLemmas.{PutsFront-behind, PutsFront-longer, appended-appended, appended-take_more}

-- some bytes more of a text were put
pub put_more : (old mid new : Option (List ℕ)) (text piece : List ℕ) (place count : ℕ) → piece ≡ take count (drop place text) → mid ≡ appended old (take place text) → new ≡ appended mid piece
    → new ≡ appended old (take (place + count) text)
put_more old mid new text piece place count is before put =
    put ∙ ap (appended mid) is ∙ ap (λ told. appended told (take count (drop place text))) before ∙ appended-take_more old place count text

-- a front of some bytes more of a text was put
pub put_front : (old mid new : Option (List ℕ)) (text piece : List ℕ) (place count : ℕ) → piece ≡ take count (drop place text) → mid ≡ appended old (take place text) → PutsFront mid new piece
    → PutsFront old new text
put_front old mid new text piece place count is before put =
    let here = PutsFront-longer mid new _ (drop count (drop place text)) (subst (PutsFront mid new) is put) in
    let rest = subst (PutsFront mid new) (take-append-drop count (drop place text)) here in
    subst (PutsFront old new) (take-append-drop place text) (PutsFront-behind old mid new (take place text) (drop place text) before rest)

-- the letters of a part
letters_of_part : (count place : ℕ) (bases : List Base) → map letter_of (take count (drop place bases)) ≡ take count (drop place (map letter_of bases))
letters_of_part count place bases = sym (take-map letter_of count (drop place bases)) ∙ ap (take count) (sym (drop-map letter_of place bases))

-- the letters of bases from a place on, at the front of a buffer
pub spelled : (count place : ℕ) (bases : List Base) (piece piece_rest : List ℕ) → count ≤ length bases - place
    → piece ≡ map letter_of (slice_range bases place (place + count)) ++ piece_rest → take count piece ≡ take count (drop place (map letter_of bases))
spelled count place bases piece piece_rest few written =
    let part = slice_range bases place (place + count) in
    let is : part ≡ take count (drop place bases) = let n : place + count - place ≡ count = omega arith in ap (λ k. take k (drop place bases)) n in
    let len : length part ≡ count = ap length is ∙ length-take-le count (drop place bases) (omega (arith, few, length-drop place bases)) in
    ap (take count) written ∙ take_at (map letter_of part) piece_rest count (length-map part letter_of ∙ len)
    ∙ ap (map letter_of) is ∙ letters_of_part count place bases

-- a part of a range
part_of_range : (count done lo hi : ℕ) (dna : List Base) → done + count ≤ hi - lo → take count (drop (lo + done) dna) ≡ take count (drop done (slice_range dna lo hi))
part_of_range count done lo hi dna within =
    let rest = hi - lo - (done + count) in
    let width : hi - lo ≡ done + (count + rest) = omega (arith, within) in
    let there : drop done (slice_range dna lo hi) ≡ take (count + rest) (drop done (drop lo dna)) = ap (λ n. drop done (take n (drop lo dna))) width ∙ drop-take done (count + rest) (drop lo dna) in
    let front = take-take count (count + rest) (drop done (drop lo dna)) (omega arith) in
    ap (take count) (sym (drop-drop done lo dna)) ∙ sym front ∙ ap (take count) (sym there)

-- the letters of a window on a range
pub window_letters : (count done lo hi : ℕ) (dna window : List Base) → done + count ≤ hi - lo → take count window ≡ take count (drop (lo + done) dna)
    → map letter_of (take count window) ≡ take count (drop done (map letter_of (slice_range dna lo hi)))
window_letters count done lo hi dna window within is = ap (map letter_of) (is ∙ part_of_range count done lo hi dna within) ∙ letters_of_part count done (slice_range dna lo hi)

-- a second text behind a first that was put whole
pub puts_behind : {T E : Type 0} → (first second : List ℕ) (old mid new : Option (List ℕ)) (result : Result T E) → mid ≡ appended old first → Puts result mid new second → Puts result old new (first ++ second)
puts_behind first second old mid new (Ok done) before put = put ∙ ap (λ told. appended told second) before ∙ appended-appended old first second
puts_behind first second old mid new (Err e) before put = PutsFront-behind old mid new first second before put
