use Rattle.std.proofs.Common.{◌∙◌, ap, subst, sym}
use Rattle.source_text.specs.declared.pieces.Item.TheVariants.{Group}
use Rattle.source_text.specs.declared.signs.Sign.TheVariants.{CloseBrace}
use Rattle.source_text.specs.Sequences.{closed, piece_worth}
use Rattle.source_text.specs.Keeping.{Reads}
use Rattle.source_text.specs.Reading.{number}
use Rattle.source_text.proofs.PartLemmas.{level_bad, level_on, level_plain}
use Rattle.source_text.proofs.parts.level_part.Goals as goal

pub returns-then-not-stands-clause-value : goal.returns-then-not-stands-clause-value
returns-then-not-stands-clause-value c names line inside =
    subst (λ d. Reads c.args.scope.now.limit c.in_ok-read.read d) (sym (level_plain names line inside c.args.at c.args.n.number c.args.n.faults c.args.tokens.now (sym c.stands.ensures ∙ c.if-not-stands.true))) c.in_ok-read.ensures.value

pub returns-in-Err-clause-value : goal.returns-in-Err-clause-value
returns-in-Err-clause-value c names line inside =
    level_bad names line inside c.args.at c.args.n.number c.args.n.faults c.args.tokens.now c.in-Err.left (sym c.stands.ensures ∙ c.if-not-stands.false) (c.in-Err.ensures.value ∙ ap number c.tail.ensures.value)

pub returns-clause-value : goal.returns-clause-value
returns-clause-value c names line inside =
    let is = level_on names line inside c.args.at c.args.n.number c.args.n.faults c.args.tokens.now c.in-Ok.read.1.now c.in-Ok.read.0 (sym c.stands.ensures ∙ c.if-not-stands.false) (c.in-Ok.ensures.value ∙ ap number c.tail.ensures.value) in
    let sums = ap (λ f. closed CloseBrace (piece_worth (Group c.args.n.number c.in-Ok.read.0.number) c.args.at f) c.in-Ok.read.1.now) c.and-faults.ensures in
    subst (λ d. Reads c.args.scope.now.limit c.in_ok-read-2.read d) (sums ∙ sym is) c.in_ok-read-2.ensures.value
