use Rattle.std.proofs.Common.{◌≡◌, ℕ, ◌∙◌, get_or, inl, inr, ap, sym, subst}
use Rattle.std.proofs.lemmas.Bool.{cases_eq, eq-eqb, ne_eqb}
use Rattle.source_text.specs.declared.names.Known.TheVariants.{Unknown}
use Rattle.source_text.specs.Keeping.{AreKnown, IsMeant}
use Rattle.source_text.specs.Names.{Meaning, Names, with_meaning}
use Rattle.source_text.proofs.labels.add_label.Goals as goal

same_meaning : (names : Names) (id k : ℕ) (meaning : Meaning) → meaning ≡ names id → with_meaning names id meaning k ≡ names k
same_meaning names id k meaning same =
    elim (cases_eq k id) [
      | inl here ↦ rw (eq-eqb k id here) (same ∙ sym (ap names here))
      | inr other ↦ rw (ne_eqb k id other)
    ]

pub returns-in-None : goal.returns-in-None
returns-in-None c limit names known k =
    let here : AreKnown limit c.as_slice.result.now names = subst (λ l. AreKnown limit l names) (sym c.as_slice.ensures.value) known in
    subst (λ m. IsMeant limit (get_or c.args.known.now.items k Unknown) m) (sym (same_meaning names c.args.id k _ (c.in-None.ensures limit names here))) (known k)
