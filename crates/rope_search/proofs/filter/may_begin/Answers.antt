use Rattle.std.proofs.Common.{◌≡◌, arith, subst, inl, inr}
use Rattle.std.proofs.lemmas.Bool.{cases_lt}
use Rattle.std.proofs.lemmas.Bool.Decides.{nat_tests}
use Rattle.std.proofs.lemmas.Nat.{le_or_l, le_or_r}
use Rattle.rope_search.specs.Sought.{Begins}
use Rattle.rope_search.proofs.filter.may_begin.Goals as goal

pub loop-place-preserved : goal.loop-place-preserved
loop-place-preserved g c =
    let hits = c.loop-place.hits in
    let hit = c.begins-hits.result in
    λ none p lt.
    elim (cases_lt p c.loop-place.place) [
      | inl before ↦ c.loop-place.invariant (omega (arith, none, le_or_l hits hit)) p before
      | inr late ↦
          let here : c.loop-place.place ≡ p = omega arith in
          subst (λ n. Begins c.args.needle.now c.args.block.now n → ⊥) here (c.begins-hits.ensures (omega (arith, none, le_or_r hits hit)))
    ]

pub returns : goal.returns
returns g c =
    λ no place lt. c.loop-place.invariant (grind (arith, nat_tests)) place (omega arith)
