use Rattle.std.proofs.Common.{◌++◌, ◌∙◌, ap, append-nil, subst, sym}
use Rattle.source_text.specs.Keeping.{IsHeld}
use Rattle.source_text.specs.Pieces.{given_at}
use Rattle.source_text.proofs.PieceLemmas.{given_held, given_past}
use Rattle.source_text.proofs.held.with_given.Goals as goal

pub returns-then-given-k : goal.returns-then-given-k
returns-then-given-k c x lists is are =
    subst (λ l. IsHeld c.args.limit c.args.found l) (sym (ap (λ l. x ++ l) (given_past c.args.limit c.args.k c.args.given.now lists c.if-given-k.true are) ∙ append-nil x)) is

pub returns : goal.returns
returns c x lists is are =
    c.in_ok-held.ensures x (given_at lists c.args.k) is
    (subst (λ h. IsHeld c.args.limit h (given_at lists c.args.k)) (sym c.index-given-k.is) (given_held c.args.limit c.args.k c.args.given.now lists c.index-given-k.result c.if-given-k.false are))
