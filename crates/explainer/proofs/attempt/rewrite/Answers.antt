use Rattle.std.proofs.Common.{◌≡◌, ◌-◌, ℕ, inl, List, Result, Ok, Err, IfOk, take, drop, ap, subst, ◌∙◌}
use Rattle.std.proofs.lemmas.List.{take_rest}
use Rattle.dna_items.specs.declared.items.PatItem.{PatItem}
use Rattle.dna_items.specs.declared.items.TplItem.{TplItem}
use Rattle.sym_strand.specs.declared.cells.Cell.{Cell}
use Rattle.explainer.specs.Passing.{MatchesSo}
use Rattle.explainer.specs.Replacement.{texts_of}
use Rattle.explainer.specs.Making.{PutsSo, ComesOfItems}
use Rattle.explainer.specs.declared.attempt.Next.{Next}
use Rattle.explainer.specs.declared.matching.CellMatch.TheVariants.{Matched}
use Rattle.explainer.proofs.attempt.rewrite.Goals as goal

put_behind : {E : Type 0} (result : Result Next E) (rest : List Cell) (pattern : List PatItem) (template : List TplItem) (stop limit : ℕ) (groups : List (ℕ × ℕ)) → MatchesSo rest pattern (Matched stop groups)
    → IfOk result (PutsSo (texts_of rest groups) template (drop stop rest) limit) → IfOk result (ComesOfItems rest pattern template limit)
put_behind (Ok next) rest pattern template stop limit groups leads puts = inl (record { stop = stop; groups = groups; leads = leads; puts = puts })
put_behind (Err e) rest pattern template stop limit groups leads puts = tt

pub returns-in-Matched : goal.returns-in-Matched
returns-in-Matched g c =
    let z = c.args.dna.now in
    let pair = c.args.pair.now in
    let rest = c.in_ok-rest.rest in
    let stop = c.in-Matched.stop in
    let groups = c.in-Matched.groups in
    let is : rest ≡ drop pair.next z = c.in_ok-rest.ensures ∙ ap (λ n. take (n - pair.next) (drop pair.next z)) c.len.ensures.length ∙ take_rest z pair.next in
    let leads : MatchesSo rest pair.pattern (Matched stop groups) =
    subst (λ p. MatchesSo rest p (Matched stop groups)) c.as_slice.ensures (subst (MatchesSo rest c.as_slice.result.now) c.in-Matched.is c.in_ok-stop.ensures) in
    let puts : IfOk c.put.result (PutsSo (texts_of rest groups) pair.template (drop stop rest) c.args.limit) =
    subst (λ t. IfOk c.put.result (PutsSo (texts_of rest groups) t (drop stop rest) c.args.limit)) c.as_slice-in-Matched.ensures
    (subst (λ l. IfOk c.put.result (PutsSo (texts_of rest l) c.as_slice-in-Matched.result.now (drop stop rest) c.args.limit)) c.as_slice-in-Matched-2.ensures c.put.ensures) in
    subst (λ r. IfOk c.put.result (ComesOfItems r pair.pattern pair.template c.args.limit)) is (put_behind c.put.result rest pair.pattern pair.template stop c.args.limit groups leads puts)
