use Rattle.std.proofs.Common.{◌∙◌, ◌∷◌, [], ap, subst, sym}
use Rattle.source_text.specs.declared.pieces.Item.TheVariants.{Skip}
use Rattle.source_text.specs.Sequences.{piece_worth, sum_part}
use Rattle.source_text.specs.Keeping.{IsWorth, Reads}
use Rattle.source_text.proofs.PartLemmas.{skip_bad, skip_one, skip_sum}
use Rattle.source_text.proofs.parts.skip_part.Goals as goal

pub returns-then-stands-clause-value : goal.returns-then-stands-clause-value
returns-then-stands-clause-value c names inside known =
    let is = skip_sum names c.args.scope.now.line inside c.args.at c.args.tokens.now (sym c.stands.ensures ∙ c.if-stands.true) in
    subst (λ d. Reads c.args.scope.now.limit c.in_ok-read.read d) (ap (sum_part names c.args.scope.now.line inside c.args.at) c.tail.ensures.value ∙ sym is)
    (c.in_ok-read.ensures.value names inside known)

pub returns-in-Err-clause-value : goal.returns-in-Err-clause-value
returns-in-Err-clause-value c names inside known =
    skip_bad names c.args.scope.now.line inside c.args.at c.args.tokens.now c.in-Err.left (sym c.stands.ensures ∙ c.if-stands.false) (c.in-Err.ensures.value c.args.scope.now.limit names known)

pub returns-clause-value : goal.returns-clause-value
returns-clause-value c names inside known =
    let is = skip_one names c.args.scope.now.line inside c.args.at c.args.tokens.now c.in-Ok.read.1.now c.in-Ok.read.0 (sym c.stands.ensures ∙ c.if-stands.false) (c.in-Ok.ensures.value c.args.scope.now.limit names known) in (
      piece_worth (Skip ((c.in-Ok.read.0.factor ∷ []) ∷ [])) c.args.at c.in-Ok.read.0.faults,
      is,
      subst (λ s. IsWorth c.args.scope.now.limit c.in_ok-found.found (piece_worth (Skip s) c.args.at c.in-Ok.read.0.faults)) c.in_ok-sum.ensures c.in_ok-found.ensures,
    )
