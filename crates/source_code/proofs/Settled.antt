-- What was found for lines as they are kept is the answer for the lines.
use Rattle.std.proofs.Common.{◌≡◌, ℕ, zero, suc, ◌^◌, ◌<◌, ◌≤◌, true, Err, List, [], ◌∷◌, drop, length, inl, inr, arith, refl, sym, ap, ◌∙◌, subst, length-append, length-drop}
use Rattle.std.specs.Prelude.{◌≢◌}
use Rattle.fuun_base.specs.declared.letters.Base.{Base}
use Rattle.source_items.specs.declared.lines.Line.{Line}
use Rattle.source_items.specs.Held.{AreHeld}
use Rattle.source_items.specs.Lines.{are_small, line_code, line_len}
use Rattle.source_items.specs.Values.{total}
use Rattle.source_code.specs.declared.settling.CodeError.{CodeError}
use Rattle.source_code.specs.declared.settling.CodeError.TheVariants.{BadNumber, TooLong, NoMemory}
use Rattle.source_code.specs.Answers.{IsAnswer, IsLastBig}
use Rattle.source_code.specs.Kept.{AreFound, Exact, IsFoundBig, IsRefusal}
use Rattle.source_code.specs.Lengths.{AreLengths, Settles, dna}
use Rattle.source_code.proofs.AlikeLines.{AreAlike, total_alike}
use Rattle.source_items.proofs.HeldLemmas.{alike_small, held_of_small, held_over}
use Rattle.source_code.proofs.LawLemmas.{code_has_length}
use Rattle.source_code.proofs.Transfer.{all_kept, big_kept}

-- no length is held where all are within the limit

pub exact_found : (kept : List Line) (found : List ℕ) (limit : ℕ) → AreFound kept found → total found ≤ limit → limit ≤ 2 ^ 40 → Exact kept found
exact_found [] [] limit are within small = tt
exact_found [] (n ∷ found) limit are within small = are
exact_found (line ∷ kept) [] limit are within small = are
exact_found (line ∷ kept) (n ∷ found) limit are within small =
    let here = are.0 in
    let same : n ≡ here.own = held_of_small n here.own here.as_held (omega (arith, within, small)) in (
      subst (λ m. m ≡ line_len m found line) (sym same) here.is.here,
      subst (λ m. are_small m found line ≡ true) (sym same) here.small,
      omega (arith, within, small),
      exact_found kept found limit are.1 (omega (arith, within)) small,
    )

same_lengths : (lengths found : List ℕ) (limit : ℕ) → AreAlike lengths found → total found ≤ limit → limit ≤ 2 ^ 40 → lengths ≡ found
same_lengths [] [] limit alike within small = refl
same_lengths [] (n ∷ found) limit alike within small = absurd alike
same_lengths (m ∷ lengths) [] limit alike within small = absurd alike
same_lengths (m ∷ lengths) (n ∷ found) limit alike within small =
    let first : n ≡ m = alike_small n m (sym alike.0) (omega (arith, within, small)) in
    let others : lengths ≡ found = same_lengths lengths found limit alike.1 (omega (arith, within)) small in
    ap (λ x. x ∷ lengths) (sym first) ∙ ap (λ l. n ∷ l) others

same_lines : (limit : ℕ) (lines kept : List Line) (lengths : List ℕ) → AreHeld limit lines kept → AreLengths lines lengths → total lengths ≤ limit → kept ≡ lines
same_lines limit [] [] lengths are is within = refl
same_lines limit [] (one ∷ kept) lengths are is within = absurd are
same_lines limit (line ∷ lines) [] lengths are is within = absurd are
same_lines limit (line ∷ lines) (one ∷ kept) [] are is within = absurd is
same_lines limit (line ∷ lines) (one ∷ kept) (own ∷ behind) are is within =
    let others : kept ≡ lines = same_lines limit lines kept behind are.1 is.1 (omega (arith, within)) in
    elim are.0 as (λ _. one ∷ kept ≡ line ∷ lines) [
      | inl same ↦ ap (λ x. x ∷ kept) same ∙ ap (λ l. line ∷ l) others
      | inr long ↦ absurd (omega (arith, within, long.past own behind, is.0.here))
    ]

-- the answers

abbrev pub IsTaken : List Line → ℕ → List Base → Type 0
IsTaken lines limit code = (lengths : List ℕ) × Settles lines lengths × (total lengths ≤ limit) × (code ≡ dna lines lengths)

pub taken_is : (limit : ℕ) (lines kept : List Line) (found : List ℕ) → limit ≤ 2 ^ 40 → AreHeld limit lines kept → AreFound kept found → total found ≤ limit → IsTaken lines limit (dna kept found)
taken_is limit lines kept found small are is within =
    let here = all_kept limit lines kept found are is in
    let lengths : here.0 ≡ found = same_lengths here.0 found limit here.1.alike within small in
    let most : total here.0 ≤ limit = omega (arith, ap total lengths, within) in
    let same : kept ≡ lines = same_lines limit lines kept here.0 are here.1.settles.are most in
    (here.0, here.1.settles, most, ap (λ l. dna l found) same ∙ ap (λ l. dna lines l) (sym lengths))

pub too_long_is : (limit : ℕ) (lines kept : List Line) (found : List ℕ) → limit ≤ 2 ^ 40 → AreHeld limit lines kept → AreFound kept found → limit < total found → IsAnswer lines limit (Err TooLong)
too_long_is limit lines kept found small are is over =
    let here = all_kept limit lines kept found are is in
    (here.0, here.1.settles, held_over limit (total here.0) (total found) (omega (arith, small)) (total_alike here.0 found here.1.alike) over)

drop_held : (limit index : ℕ) (lines kept : List Line) → AreHeld limit lines kept → AreHeld limit (drop index lines) (drop index kept)
drop_held limit zero lines kept are = are
drop_held limit (suc index) [] [] are = are
drop_held limit (suc index) [] (one ∷ kept) are = absurd are
drop_held limit (suc index) (line ∷ lines) [] are = absurd are
drop_held limit (suc index) (line ∷ lines) (one ∷ kept) are = drop_held limit index lines kept are.1

last_big : (limit index : ℕ) (lines kept rest : List Line) (big : IsFoundBig kept index) → drop index lines ≡ rest → AreHeld limit rest (big.line ∷ big.later) → IsLastBig lines index
last_big limit index lines kept [] big there are = absurd are
last_big limit index lines kept (line ∷ later) big there are =
    let here = all_kept limit later big.later big.behind are.1 big.found in
    record {
      line = line;
      later = later;
      there = there;
      behind = here.0;
      settles = here.1.settles;
      big = big_kept limit line big.line here.0 big.behind are.0 here.1.alike big.big;
    }

pub refused_is : (limit : ℕ) (lines kept : List Line) (error : CodeError) → AreHeld limit lines kept → IsRefusal kept error → error ≢ NoMemory → IsAnswer lines limit (Err error)
refused_is limit lines kept (BadNumber index) are big other =
    last_big limit index lines kept (drop index lines) big refl (subst (λ l. AreHeld limit (drop index lines) l) big.there (drop_held limit index lines kept are))
refused_is limit lines kept TooLong are big other = absurd big
refused_is limit lines kept NoMemory are big other = absurd (other refl)

-- the codes are within the limit, and a line that is refused is there

pub exact_len : (kept : List Line) (found : List ℕ) → Exact kept found → length (dna kept found) ≡ total found
exact_len [] [] exact = refl
exact_len [] (n ∷ found) exact = absurd exact
exact_len (line ∷ kept) [] exact = absurd exact
exact_len (line ∷ kept) (n ∷ found) exact =
    omega (arith, exact.0, exact_len kept found exact.3, code_has_length n found line, length-append (line_code n found line) (dna kept found))

pub index_within : (index : ℕ) (kept later : List Line) (line : Line) → drop index kept ≡ line ∷ later → index < length kept
index_within index kept later line there = omega (arith, ap length there, length-drop index kept)

pub refused_within : (kept : List Line) (error : CodeError) (index : ℕ) → IsRefusal kept error → error ≡ BadNumber index → index < length kept
refused_within kept (BadNumber at) index big is =
    let here : at ≡ index = cc in
    let place = index_within at kept big.later big.line big.there in
    omega (arith, here, place)
refused_within kept TooLong index big is = absurd big
refused_within kept NoMemory index big is = cc
