-- Answers for sources: there is one, and no other.
use Rattle.std.proofs.Common.{◌≡◌, ℕ, suc, zero, ◌<◌, Option, Some, None, Result, Ok, Err, List, [], ◌∷◌, length, slice_get, arith, refl, sym, ap, ◌∙◌, length-drop}
use Rattle.fuun_base.specs.declared.letters.Base.{Base}
use Rattle.source_code.specs.declared.settling.CodeError.{CodeError}
use Rattle.source_code.specs.declared.settling.CodeError.TheVariants as code
use Rattle.source_code.specs.Answers.{IsAnswer, IsLastBig}
use Rattle.source_code.proofs.AnswerLemmas.{answer_is_one, has_answer}
use Rattle.source_text.specs.declared.judging.Refusal.{Refusal}
use Rattle.source_text.specs.Judging.{Placed}
use Rattle.source_text.specs.Sources.{lines_of}
use Rattle.source_text.specs.Taking.{lines_in}
use Rattle.source_tokens.specs.Places.{place_of}
use Rattle.source_compile.specs.declared.compiling.SourceError.{SourceError}
use Rattle.source_compile.specs.declared.compiling.SourceError.TheVariants.{BadSource, BadName, BadNumber, NoCode, TooLong, NoMemory}
use Rattle.source_compile.specs.Compiled.{IsBigAt, IsCompiledBy, IsSettled, refused}
use Rattle.source_compile.specs.Laws.{AnswerIsOne, HasAnswer}

-- where the line of an index stands
abbrev stands_at : Option Placed → ℕ
stands_at None = 0
stands_at (Some placed) = placed.at

-- the answer for a source whose lines have this answer
abbrev shown : List ℕ → List Placed → Result (List Base) CodeError → Result (List Base) SourceError
shown source all (Ok dna) = Ok dna
shown source all (Err (code.BadNumber index)) = Err (BadNumber (place_of source (stands_at (slice_get all index))))
shown source all (Err code.TooLong) = Err TooLong
shown source all (Err code.NoMemory) = Err NoMemory

-- there is one

one_there : (all : List Placed) (index : ℕ) → index < length (lines_in all) → (placed : Placed) × (slice_get all index ≡ Some placed)
one_there [] index within = absurd (omega (arith, within))
one_there (placed ∷ all) zero within = (placed, refl)
one_there (placed ∷ all) (suc index) within = one_there all index (omega (arith, within))

big_there : (limit : ℕ) (source : List ℕ) (all : List Placed) (index : ℕ) → IsLastBig (lines_in all) index → IsSettled limit source all (shown source all (Err (code.BadNumber index)))
big_there limit source all index big =
    let found = one_there all index (omega (arith, ap length big.there, length-drop index (lines_in all))) in
    record { index = index; line = found.0; there = found.1; big = big; stands = ap (λ o. place_of source (stands_at o)) found.1 }

settled_by : (limit : ℕ) (source : List ℕ) (all : List Placed) (answer : Result (List Base) CodeError) → IsAnswer (lines_in all) limit answer → IsSettled limit source all (shown source all answer)
settled_by limit source all (Ok dna) is = is
settled_by limit source all (Err (code.BadNumber index)) is = big_there limit source all index is
settled_by limit source all (Err code.TooLong) is = is
settled_by limit source all (Err code.NoMemory) is = absurd is

has_by : (limit : ℕ) (source : List ℕ) (read : Result (List Placed) Refusal) → (answer : Result (List Base) SourceError) × IsCompiledBy limit source read answer
has_by limit source (Err why) = (Err (refused source why), refl)
has_by limit source (Ok all) =
    let answer = has_answer (lines_in all) limit in
    (shown source all answer.0, settled_by limit source all answer.0 answer.1)

pub source_has_answer : HasAnswer
source_has_answer limit source = has_by limit source (lines_of limit source)

-- and no other

-- the answer for the lines from which one for the source comes
abbrev Comes : ℕ → List ℕ → List Placed → Result (List Base) SourceError → Type 0
Comes limit source all answer = (settled : Result (List Base) CodeError) × IsAnswer (lines_in all) limit settled × (answer ≡ shown source all settled)

comes_big : (limit : ℕ) (source : List ℕ) (all : List Placed) (place : _) → IsBigAt source all place → Comes limit source all (Err (BadNumber place))
comes_big limit source all place big =
    (Err (code.BadNumber big.index), big.big, ap (λ p. Err (BadNumber p)) (big.stands ∙ sym (ap (λ o. place_of source (stands_at o)) big.there)))

comes : (limit : ℕ) (source : List ℕ) (all : List Placed) (answer : Result (List Base) SourceError) → IsSettled limit source all answer → Comes limit source all answer
comes limit source all (Ok dna) is = (Ok dna, is, refl)
comes limit source all (Err (BadSource place)) is = absurd is
comes limit source all (Err (BadName place)) is = absurd is
comes limit source all (Err (BadNumber place)) is = comes_big limit source all place is
comes limit source all (Err (NoCode place)) is = absurd is
comes limit source all (Err TooLong) is = (Err code.TooLong, is, refl)
comes limit source all (Err NoMemory) is = absurd is

one_by : (limit : ℕ) (source : List ℕ) (read : Result (List Placed) Refusal) (a b : Result (List Base) SourceError) → IsCompiledBy limit source read a → IsCompiledBy limit source read b → a ≡ b
one_by limit source (Err why) a b first second = first ∙ sym second
one_by limit source (Ok all) a b first second =
    let x = comes limit source all a first in
    let y = comes limit source all b second in
    x.2 ∙ ap (shown source all) (answer_is_one (lines_in all) limit x.0 y.0 x.1 y.1) ∙ sym y.2

pub source_answer_is_one : AnswerIsOne
source_answer_is_one limit source a b first second = one_by limit source (lines_of limit source) a b first second
