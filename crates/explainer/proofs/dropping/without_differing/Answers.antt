use Rattle.std.proofs.Common.{Vec, Global, ℕ, length, take, drop, sym, subst}
use Rattle.explainer.specs.Open.{GoesOn, FrontIsThere, GoesOnAlong}
use Rattle.explainer.proofs.OpenLemmas.{ok_map, there_along, there_take}
use Rattle.explainer.proofs.dropping.without_differing.Goals as goal

pub returns-in_ok-front-in-Known : goal.returns-in_ok-front-in-Known
returns-in_ok-front-in-Known c =
    let s = c.args.needle.now in
    let z = c.args.dna.now in
    let place = c.args.place in
    let x = drop c.in-Known.from c.in-Known.strand.now.bases in
    let front = c.in_ok-front-in-Known.front.items in
    let part : FrontIsThere (take (length front) x) (length (take (length front) x)) z place =
    there_take x (length front) z place c.in_ok-front-in-Known.ensures.within (there_along z c.in-Known.ensures.rest x place c.in-Known.ensures.cells) in
    let there : FrontIsThere front (length front) z place = subst (λ l. FrontIsThere l (length l) z place) (sym c.in_ok-front-in-Known.ensures.front) part in
    ok_map c.without_other.result (λ (kept : Vec ℕ Global). GoesOnAlong s c.as_slice.result.now c.args.begun.items place kept.items place)
    (λ (kept : Vec ℕ Global). GoesOn s z c.args.begun.items place kept.items place) c.without_other.ensures
    (λ kept goes. goes z (subst (λ l. FrontIsThere l (length l) z place) (sym c.as_slice.ensures.value) there))
