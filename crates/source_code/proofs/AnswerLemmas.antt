-- Answers for lines: there is one, and no other.
use Rattle.std.proofs.Common.{◌≡◌, ◌⊎◌, ℕ, zero, suc, ◌+◌, ◌-◌, ◌^◌, ◌<◌, ◌≤◌, Bool, true, false, Result, Ok, Err, List, [], ◌∷◌, drop, inl, inr, arith, refl, sym, ap, ◌∙◌, subst}
use Rattle.std.proofs.lemmas.Bool.{cases_lt}
use Rattle.std.proofs.lemmas.List.{drop-drop}
use Rattle.fuun_base.specs.declared.letters.Base.{Base}
use Rattle.dna_items.specs.Held.{held}
use Rattle.source_items.specs.declared.lines.Line.{Line}
use Rattle.source_items.specs.Held.{AreHeld}
use Rattle.source_items.specs.Lines.{are_small}
use Rattle.source_items.specs.Values.{total}
use Rattle.source_code.specs.declared.settling.CodeError.{CodeError}
use Rattle.source_code.specs.declared.settling.CodeError.TheVariants.{BadNumber, TooLong, NoMemory}
use Rattle.source_code.specs.Answers.{IsAnswer, IsLastBig}
use Rattle.source_code.specs.Kept.{AreFound, IsFoundBig}
use Rattle.source_code.specs.Laws.{AnswerIsOne, HasAnswer, KeptAnswersAlike}
use Rattle.source_code.specs.Lengths.{IsBig, IsLength, Settles, dna}
use Rattle.source_code.proofs.Existence.{has_least, least_is_length, length_once}
use Rattle.source_code.proofs.LawLemmas.{lengths_are_one}
use Rattle.source_code.proofs.Settled.{refused_is, taken_is, too_long_is}

cases_bool : (a : Bool) → (a ≡ true) ⊎ (a ≡ false)
cases_bool true = inl refl
cases_bool false = inr refl

-- lines settle, or one is the last with a great value

abbrev Judged : List Line → Type 0
Judged lines = ((lengths : List ℕ) × Settles lines lengths) ⊎ ((index : ℕ) × IsLastBig lines index)

bigger : (line : Line) (lines : List Line) (index : ℕ) → IsLastBig lines index → IsLastBig (line ∷ lines) (suc index)
bigger line lines index big = record { line = big.line; later = big.later; there = big.there; behind = big.behind; settles = big.settles; big = big.big }

judged_more : (line : Line) (lines : List Line) → Judged lines → Judged (line ∷ lines)
judged_more line lines (inr big) = inr (suc big.0, bigger line lines big.0 big.1)
judged_more line lines (inl settled) =
    let own = has_least settled.0 line in
    let is : IsLength settled.0 line own.0 = least_is_length settled.0 line own.0 own.1 in
    elim (cases_bool (are_small own.0 settled.0 line)) as (λ _. Judged (line ∷ lines)) [
      | inl small ↦ inl (own.0 ∷ settled.0, record { are = (is, settled.1.are); small = (small, settled.1.small) })
      | inr big ↦ inr (0, record { line = line; later = lines; there = refl; behind = settled.0; settles = settled.1; big = record { own = own.0; is = is; big = big } })
    ]

judged : (lines : List Line) → Judged lines
judged [] = inl ([], record { are = tt; small = tt })
judged (line ∷ lines) = judged_more line lines (judged lines)

abbrev HasOne : List Line → ℕ → Type 0
HasOne lines limit = (answer : Result (List Base) CodeError) × IsAnswer lines limit answer

answer_of : (lines : List Line) (limit : ℕ) → Judged lines → HasOne lines limit
answer_of lines limit (inr big) = (Err (BadNumber big.0), big.1)
answer_of lines limit (inl settled) =
    elim (cases_lt limit (total settled.0)) as (λ _. HasOne lines limit) [
      | inl over ↦ (Err TooLong, (settled.0, settled.1, over))
      | inr within ↦ (Ok (dna lines settled.0), (settled.0, settled.1, within, refl))
    ]

pub has_answer : HasAnswer
has_answer lines limit = answer_of lines limit (judged lines)

-- and not both

settles_drop : (lines : List Line) (lengths : List ℕ) (index : ℕ) → Settles lines lengths → Settles (drop index lines) (drop index lengths)
settles_drop lines lengths zero settles = settles
settles_drop [] [] (suc index) settles = settles
settles_drop [] (n ∷ lengths) (suc index) settles = absurd settles.are
settles_drop (line ∷ lines) [] (suc index) settles = absurd settles.are
settles_drop (line ∷ lines) (own ∷ behind) (suc index) settles = settles_drop lines behind index (record { are = settles.are.1; small = settles.small.1 })

big_or_small : (line : Line) (later : List Line) (lengths behind : List ℕ) → Settles (line ∷ later) lengths → Settles later behind → IsBig behind line → ⊥
big_or_small line later [] behind settles others big = settles.are
big_or_small line later (own ∷ lengths) behind settles others big =
    let same : lengths ≡ behind = lengths_are_one later lengths behind settles.are.1 others.are in
    let is : IsLength behind line own = subst (λ l. IsLength l line own) same settles.are.0 in
    let small : are_small own behind line ≡ true = subst (λ l. are_small own l line ≡ true) same settles.small.0 in
    let here : own ≡ big.own = length_once behind line own big.own is big.is in
    let clash : true ≡ false = sym small ∙ ap (λ n. are_small n behind line) here ∙ big.big in
    cc

settles_or_big : (lines : List Line) (lengths : List ℕ) (index : ℕ) → Settles lines lengths → IsLastBig lines index → ⊥
settles_or_big lines lengths index settles big =
    big_or_small big.line big.later (drop index lengths) big.behind (subst (λ l. Settles l (drop index lengths)) big.there (settles_drop lines lengths index settles)) big.settles big.big

-- of two last lines with a great value none is the earlier
no_earlier : (lines : List Line) (a b : ℕ) → IsLastBig lines a → IsLastBig lines b → a < b → ⊥
no_earlier lines a b one other earlier =
    let places : a + suc (b - a - 1) ≡ b = omega (arith, earlier) in
    let there : drop (b - a - 1) one.later ≡ other.line ∷ other.later =
    ap (drop (suc (b - a - 1))) (sym one.there) ∙ drop-drop (suc (b - a - 1)) a lines ∙ ap (λ n. drop n lines) places ∙ other.there in
    settles_or_big one.later one.behind (b - a - 1) one.settles (record {
      line = other.line;
      later = other.later;
      there = there;
      behind = other.behind;
      settles = other.settles;
      big = other.big;
    })

same_index : (lines : List Line) (a b : ℕ) → IsLastBig lines a → IsLastBig lines b → a ≡ b
same_index lines a b one other =
    elim (cases_lt a b) [
      | inl earlier ↦ absurd (no_earlier lines a b one other earlier)
      | inr after ↦ elim (cases_lt b a) [
        | inl later ↦ absurd (no_earlier lines b a other one later)
        | inr before ↦ omega (arith, after, before)
      ]
    ]

once_total : (lines : List Line) (a b : List ℕ) → Settles lines a → Settles lines b → a ≡ b
once_total lines a b one other = lengths_are_one lines a b one.are other.are

pub answer_is_one : AnswerIsOne
answer_is_one lines limit (Ok a) (Ok b) one other = ap Ok (one.3 ∙ ap (dna lines) (once_total lines one.0 other.0 one.1 other.1) ∙ sym other.3)
answer_is_one lines limit (Ok a) (Err (BadNumber n)) one other = absurd (settles_or_big lines one.0 n one.1 other)
answer_is_one lines limit (Ok a) (Err TooLong) one other =
    absurd (omega (arith, one.2, other.2, ap total (once_total lines one.0 other.0 one.1 other.1)))
answer_is_one lines limit (Ok a) (Err NoMemory) one other = absurd other
answer_is_one lines limit (Err (BadNumber m)) (Ok b) one other = absurd (settles_or_big lines other.0 m other.1 one)
answer_is_one lines limit (Err (BadNumber m)) (Err (BadNumber n)) one other = ap (λ i. Err (BadNumber i)) (same_index lines m n one other)
answer_is_one lines limit (Err (BadNumber m)) (Err TooLong) one other = absurd (settles_or_big lines other.0 m other.1 one)
answer_is_one lines limit (Err (BadNumber m)) (Err NoMemory) one other = absurd other
answer_is_one lines limit (Err TooLong) (Ok b) one other =
    absurd (omega (arith, one.2, other.2, ap total (once_total lines one.0 other.0 one.1 other.1)))
answer_is_one lines limit (Err TooLong) (Err (BadNumber n)) one other = absurd (settles_or_big lines one.0 n one.1 other)
answer_is_one lines limit (Err TooLong) (Err TooLong) one other = refl
answer_is_one lines limit (Err TooLong) (Err NoMemory) one other = absurd other
answer_is_one lines limit (Err NoMemory) b one other = absurd one

-- lines as they are kept

abbrev Found : List Line → Type 0
Found kept = ((found : List ℕ) × AreFound kept found) ⊎ ((index : ℕ) × IsFoundBig kept index)

found_more : (line : Line) (kept : List Line) → Found kept → Found (line ∷ kept)
found_more line kept (inr big) = inr (suc big.0, record { line = big.1.line; later = big.1.later; there = big.1.there; behind = big.1.behind; found = big.1.found; big = big.1.big })
found_more line kept (inl found) =
    let own = has_least found.0 line in
    let is : IsLength found.0 line own.0 = least_is_length found.0 line own.0 own.1 in
    elim (cases_bool (are_small own.0 found.0 line)) as (λ _. Found (line ∷ kept)) [
      | inl small ↦ inl (held own.0 ∷ found.0, (record { own = own.0; is = is; small = small; as_held = refl }, found.1))
      | inr big ↦ inr (0, record { line = line; later = kept; there = refl; behind = found.0; found = found.1; big = record { own = own.0; is = is; big = big } })
    ]

found_in : (kept : List Line) → Found kept
found_in [] = inl ([], tt)
found_in (line ∷ kept) = found_more line kept (found_in kept)

-- some answer is that for all lines that are kept so
abbrev ServesAll : List Line → ℕ → Type 0
ServesAll kept limit = (answer : Result (List Base) CodeError) × ((lines : List Line) → AreHeld limit lines kept → IsAnswer lines limit answer)

serves : (kept : List Line) (limit : ℕ) → limit ≤ 2 ^ 40 → Found kept → ServesAll kept limit
serves kept limit small (inr big) = (Err (BadNumber big.0), λ lines are. refused_is limit lines kept (BadNumber big.0) are big.1 (λ e. cc))
serves kept limit small (inl found) =
    elim (cases_lt limit (total found.0)) as (λ _. ServesAll kept limit) [
      | inl over ↦ (Err TooLong, λ lines are. too_long_is limit lines kept found.0 small are found.1 over)
      | inr within ↦ (Ok (dna kept found.0), λ lines are. taken_is limit lines kept found.0 small are found.1 within)
    ]

held_themselves : (limit : ℕ) (lines : List Line) → AreHeld limit lines lines
held_themselves limit [] = tt
held_themselves limit (line ∷ lines) = (inl refl, held_themselves limit lines)

pub kept_answers_alike : KeptAnswersAlike
kept_answers_alike limit lines kept answer small are is =
    let all = serves kept limit small (found_in kept) in
    let same : all.0 ≡ answer = answer_is_one kept limit all.0 answer (all.1 kept (held_themselves limit kept)) is in
    subst (λ a. IsAnswer lines limit a) same (all.1 lines are)
