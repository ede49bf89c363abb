use Rattle.std.proofs.Common.{◌∙◌, ap, subst, sym}
use Rattle.source_text.specs.Reading.{seen}
use Rattle.source_text.specs.Keeping.{Reads}
use Rattle.source_text.proofs.PartLemmas.{sum_bad, sum_on}
use Rattle.source_text.proofs.parts.sum_part.Goals as goal

pub returns-in-Err-clause-value : goal.returns-in-Err-clause-value
returns-in-Err-clause-value c names inside known =
    sum_bad names c.args.scope.now.line inside c.args.at c.args.tokens.now c.in-Err.left (sym (ap seen c.in-Err.is) ∙ c.in_ok-read.ensures.value c.args.scope.now.limit names known)

pub returns-clause-value : goal.returns-clause-value
returns-clause-value c names inside known =
    let is =
    sum_on names c.args.scope.now.line inside c.args.at c.args.tokens.now c.in-Ok.read.1.now c.in-Ok.read.0 (sym (ap seen c.in-Ok.is) ∙ c.in_ok-read.ensures.value c.args.scope.now.limit names known) in
    subst (λ d. Reads c.args.scope.now.limit c.in_ok-read-2.read d) (sym is) c.in_ok-read-2.ensures.value
