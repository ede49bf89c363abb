use Rattle.std.proofs.Common.{◌≡◌, ◌∷◌, ◌++◌, ◌∙◌, [], List, Ok, None, ap, arith, rules, subst, sym}
use Rattle.source_items.specs.declared.lines.Factor.{Factor}
use Rattle.source_text.specs.Reading.{Read}
use Rattle.source_text.specs.Sums.{joint, one_sum}
use Rattle.source_text.specs.declared.sums.OneSum.{OneSum}
use Rattle.source_text.proofs.SumLemmas.{SumFound, sum_bad, sum_bad_turn, sum_end, sum_first, sum_more}
use Rattle.source_text.proofs.sums.sum.Goals as goal

pub returns-in-Err-clause-value : goal.returns-in-Err-clause-value
returns-in-Err-clause-value c limit names known = sum_bad names c.args.line c.args.tokens.now c.in-Err.left (c.in-Err.ensures.value limit names known)

pub factors-init : goal.factors-init
factors-init c = record {
  within = omega (arith, c.in-Ok.ensures.within);
  found = λ limit names known.
      let last : c.push.new.self ≡ c.in-Ok.read.0.factor ∷ [] = c.in_ok-push.ensures.added ∙ ap (λ l. l ++ c.in-Ok.read.0.factor ∷ []) c.new-last.ensures in
      subst (λ l. SumFound names c.args.line c.args.tokens.now c.new-products.result l c.in-Ok.read.0.faults c.in-Ok.read.1.now) (sym last)
      (subst (λ p. SumFound names c.args.line c.args.tokens.now p (c.in-Ok.read.0.factor ∷ []) c.in-Ok.read.0.faults c.in-Ok.read.1.now) (sym c.new-products.ensures)
      (sum_first names c.args.line c.args.tokens.now c.in-Ok.read.1.now c.in-Ok.read.0 (c.in-Ok.ensures.value limit names known)));
}

pub returns-in-Err-factor-clause-value : goal.returns-in-Err-factor-clause-value
returns-in-Err-factor-clause-value c limit names known =
    sum_bad_turn names c.args.line c.args.tokens.now c.factors.products c.factors.last c.factors.faults c.factors.rest.now c.in-Some.behind.now c.in-Some.plus c.in-Err-factor.left
    c.in-Some.ensures.value (c.in-Err-factor.ensures.value limit names known) (c.factors.invariant.found limit names known)

pub factors-preserved : goal.factors-preserved
factors-preserved c = record {
  within = omega (arith, c.in-Ok-factor.ensures.within, c.in-Some.ensures.within);
  found = λ limit names known.
      sum_more names c.args.line c.args.tokens.now c.factors.products c.turned.new.products c.factors.last c.in_ok-last.last c.push-in-Some.new.self c.factors.faults c.and-faults.result
      c.factors.rest.now c.in-Some.behind.now c.in-Ok-factor.read.1.now c.in-Some.plus c.in-Ok-factor.read.0
      c.in-Some.ensures.value (c.in-Ok-factor.ensures.value limit names known) (omega (arith, c.in-Ok-factor.ensures.within, c.in-Some.ensures.within))
      c.in_ok-last.ensures.products c.in_ok-last.ensures.product c.in_ok-push-2.ensures.added c.and-faults.ensures (c.factors.invariant.found limit names known);
}

pub returns-clause-value : goal.returns-clause-value
returns-clause-value c limit names known =
    let none : None ≡ joint c.factors.rest.now = search rules in
    let make : List (List Factor) → Read OneSum = λ s. Ok (one_sum s c.factors.faults, c.factors.rest.now) in
    ap make c.in_ok-push-3.ensures.added
    ∙ sum_end names c.args.line c.args.tokens.now c.factors.products c.factors.last c.factors.faults c.factors.rest.now none (c.factors.invariant.found limit names known)
