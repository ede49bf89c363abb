use Rattle.std.proofs.Common.{◌∙◌, ap, arith, sym}
use Rattle.source_text.specs.Reading.{number}
use Rattle.source_text.proofs.PartLemmas.{repeats_bad, repeats_end, repeats_first, repeats_more}
use Rattle.source_text.proofs.parts.repeats.Goals as goal

pub times-init : goal.times-init
times-init c = record {
  within = omega arith;
  found = λ x is. repeats_first c.args.scope.now.limit x c.args.tokens.now c.args.part is;
}

pub returns-in-Err-clause-value : goal.returns-in-Err-clause-value
returns-in-Err-clause-value c x is =
    repeats_bad c.args.scope.now.limit x c.args.tokens.now c.times.found c.times.rest.now c.in-Err.left (sym c.stands.ensures ∙ c.times-test.true) (c.in-Err.ensures.value ∙ ap number c.tail.ensures.value)
    (c.times.invariant.found x is)

pub times-preserved : goal.times-preserved
times-preserved c =
    let left = c.in-Ok.ensures.within in
    let tail = c.tail.ensures.within in
    record {
      within = omega (arith, left, tail, c.times.invariant.within);
      found = λ x is.
          repeats_more c.args.scope.now.limit x c.args.tokens.now c.times.found c.in_ok-found.found c.times.rest.now c.in-Ok.read.1.now c.in-Ok.read.0
          (sym c.stands.ensures ∙ c.times-test.true) (c.in-Ok.ensures.value ∙ ap number c.tail.ensures.value) (omega (arith, left, tail))
          c.in_ok-found.ensures (c.times.invariant.found x is);
    }

pub returns-clause-value : goal.returns-clause-value
returns-clause-value c x is =
    repeats_end c.args.scope.now.limit x c.args.tokens.now c.times.found c.times.rest.now (sym c.stands.ensures ∙ c.times-test.false) (c.times.invariant.found x is)
