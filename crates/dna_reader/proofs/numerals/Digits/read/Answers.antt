use Rattle.std.proofs.Common.{◌≡◌, ◌+◌, ◌^◌, ◌++◌, [], ◌∷◌, List, length, min, take, get_or, ap, sym, ◌∙◌}
use Rattle.std.proofs.lemmas.List.{take_more, append_assoc}
use Rattle.fuun_base.specs.declared.letters.Base.{Base}
use Rattle.fuun_base.specs.declared.letters.Base.TheVariants.{I}
use Rattle.dna_items.specs.Held.{held}
use Rattle.dna_reader.specs.Numeral.{value_from}
use Rattle.dna_reader.proofs.HeldLemmas.{digit_more}
use Rattle.dna_reader.proofs.numerals.Digits.read.Goals as goal

pub loop-base-preserved : goal.loop-base-preserved
loop-base-preserved c = λ read have.
    let before : List Base = take c.loop-base.base-index c.args.bases.now in
    let base : Base = get_or c.args.bases.now c.loop-base.base-index I in
    let same : (read ++ before) ++ base ∷ [] ≡ read ++ take (c.loop-base.base-index + 1) c.args.bases.now =
    append_assoc read before (base ∷ []) ∙ ap (λ l. read ++ l) (sym (take_more c.args.bases.now c.loop-base.base-index I c.loop-base-test.true)) in
    let more = digit_more c.loop-base.self.value c.loop-base.self.weight (read ++ before) base (c.loop-base.invariant read have) in
    record {
      value = c.held_sum-self.ensures ∙ ap (λ n. min (c.loop-base.self.value + n) (2 ^ 63)) c.added.ensures ∙ more.value ∙ ap (λ l. held (value_from 0 l)) same;
      weight = c.held_sum-self-in-loop-base.ensures ∙ more.weight ∙ ap (λ l. held (2 ^ length l)) same;
    }
