-- What holds of settled lines.
use Rattle.std.proofs.Common.{◌≡◌, ℕ, zero, suc, ◌+◌, List, [], ◌∷◌, ◌++◌, drop, length, take, arith, refl, sym, ap, ◌∙◌, subst, length-append}
use Rattle.std.proofs.lemmas.List.{length-replicate}
use Rattle.std.proofs.Math.Seq.{drop-append-add}
use Rattle.fuun_base.specs.declared.letters.Base.{Base}
use Rattle.source_items.specs.declared.lines.Line.TheVariants.{Plain, Pair, Long}
use Rattle.source_items.specs.Lines.{line_code, line_len}
use Rattle.source_items.specs.Values.{total}
use Rattle.source_code.specs.Laws.{CodeHasLength, CodesHaveLengths, HasLengths, LengthsAreOne, NamesAreDistances, OthersAreBehind}
use Rattle.source_code.specs.Lengths.{IsLength, dna}
use Rattle.source_code.proofs.Existence.{has_least, least_is_length, length_once}

pub has_lengths : HasLengths
has_lengths [] = ([], tt)
has_lengths (line ∷ lines) =
    let later = has_lengths lines in
    let own = has_least later.0 line in
    (own.0 ∷ later.0, (least_is_length later.0 line own.0 own.1, later.1))

pub lengths_are_one : LengthsAreOne
lengths_are_one [] [] [] one other = refl
lengths_are_one [] [] (n ∷ b) one other = absurd other
lengths_are_one [] (m ∷ a) b one other = absurd one
lengths_are_one (line ∷ lines) [] b one other = absurd one
lengths_are_one (line ∷ lines) (m ∷ a) [] one other = absurd other
lengths_are_one (line ∷ lines) (m ∷ a) (n ∷ b) one other =
    let later : a ≡ b = lengths_are_one lines a b one.1 other.1 in
    let here : m ≡ n = length_once b line m n (subst (λ l. IsLength l line m) later one.0) other.0 in
    ap (λ x. x ∷ a) here ∙ ap (λ l. n ∷ l) later

pub code_has_length : CodeHasLength
code_has_length own behind (Plain bases) = refl
code_has_length own behind (Pair pattern template) = refl
code_has_length own behind (Long skips len) = length-replicate (line_len own behind (Long skips len)) _

pub codes_have_lengths : CodesHaveLengths
codes_have_lengths [] [] are = refl
codes_have_lengths [] (n ∷ lengths) are = absurd are
codes_have_lengths (line ∷ lines) [] are = absurd are
codes_have_lengths (line ∷ lines) (own ∷ behind) are =
    omega (arith, length-append (line_code own behind line) (dna lines behind), code_has_length own behind line, codes_have_lengths lines behind are.1, are.0.here)

pub others_are_behind : OthersAreBehind
others_are_behind lines lengths zero are = refl
others_are_behind [] [] (suc count) are = refl
others_are_behind [] (n ∷ lengths) (suc count) are = absurd are
others_are_behind (line ∷ lines) [] (suc count) are = absurd are
others_are_behind (line ∷ lines) (own ∷ behind) (suc count) are =
    let code : List Base = line_code own behind line in
    let size : own ≡ length code = are.0.here ∙ sym (code_has_length own behind line) in
    let further : ℕ = total (take count behind) in
    ap (λ n. drop (n + further) (code ++ dna lines behind)) size
    ∙ drop-append-add code (dna lines behind) further
    ∙ others_are_behind lines behind count are.1

pub names_are_distances : NamesAreDistances
names_are_distances line later own behind are = record {
  rest = sym (codes_have_lengths later behind are.1);
  self = are.0.here ∙ sym (code_has_length own behind line);
  next = λ count. others_are_behind later behind count are.1;
}
