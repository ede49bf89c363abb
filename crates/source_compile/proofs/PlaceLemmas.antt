-- Where lines stand.
use Rattle.std.proofs.Common.{◌≡◌, ℕ, suc, zero, ◌<◌, Err, List, [], ◌∷◌, Some, length, slice_get, arith, refl, sym, ap, ◌∙◌, subst}
use Rattle.std.specs.Option.{option_map}
use Rattle.std.proofs.lemmas.Option.{slice_get-map}
use Rattle.source_items.specs.declared.lines.Line.{Line}
use Rattle.source_items.specs.Held.{AreHeld}
use Rattle.source_code.specs.Answers.{IsLastBig}
use Rattle.source_text.specs.Judging.{Placed}
use Rattle.source_text.specs.Taking.{AreKept, lines_in}
use Rattle.source_tokens.specs.Places.{place_of}
use Rattle.source_compile.specs.declared.compiling.SourceError.{SourceError}
use Rattle.source_compile.specs.declared.compiling.SourceError.TheVariants.{BadNumber}
use Rattle.source_compile.specs.Compiled.{IsSettled}

same_length : (limit : ℕ) (all : List Placed) (kept : List Line) → AreHeld limit (lines_in all) kept → length all ≡ length kept
same_length limit [] [] are = refl
same_length limit [] (one ∷ kept) are = absurd are
same_length limit (placed ∷ all) [] are = absurd are
same_length limit (placed ∷ all) (one ∷ kept) are = ap suc (same_length limit all kept are.1)

one_there : (all : List Placed) (index : ℕ) → index < length all → (placed : Placed) × (slice_get all index ≡ Some placed)
one_there [] index within = absurd (omega (arith, within))
one_there (placed ∷ all) zero within = (placed, refl)
one_there (placed ∷ all) (suc index) within = one_there all index (omega (arith, within))

-- the place of the last line with a sum that is too great
pub big_at : (limit : ℕ) (source : List ℕ) (all : List Placed) (lines : List Line) (places : List ℕ) (index : ℕ) (error : SourceError) → AreKept limit lines places all → index < length lines → IsLastBig (lines_in all) index → ((at : ℕ) → slice_get places index ≡ Some at → error ≡ BadNumber (place_of source at)) → IsSettled limit source all (Err error)
big_at limit source all lines places index error are within big tells =
    let found = one_there all index (omega (arith, within, same_length limit all lines are.held)) in
    let stands : slice_get places index ≡ Some found.0.at =
    ap (λ p. slice_get p index) are.stand ∙ slice_get-map (λ (placed : Placed). placed.at) all index ∙ ap (option_map (λ (placed : Placed). placed.at)) found.1 in
    subst (λ e. IsSettled limit source all (Err e)) (sym (tells found.0.at stands)) (record { index = index; line = found.0; there = found.1; big = big; stands = refl })
