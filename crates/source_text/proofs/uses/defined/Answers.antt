use Rattle.std.proofs.Common.{◌≡◌, ◌∙◌, arith, length, subst, sym}
use Rattle.source_text.specs.Keeping.{IsWorth}
use Rattle.source_text.specs.Pieces.{filled}
use Rattle.source_text.proofs.UseLemmas.{defined_bad, defined_served, lists_len}
use Rattle.source_text.proofs.uses.defined.Goals as goal

pub returns-then-count-given : goal.returns-then-count-given
returns-then-count-given c pieces lists is whole are =
    let size = lists_len c.args.scope.now.limit c.args.given.now lists are in
    subst (λ w. IsWorth c.args.scope.now.limit c.bad.result w) (sym (defined_bad c.args.kind c.args.at c.args.count lists pieces (λ e. c.if-count-given.true (e ∙ sym size))))
    (c.bad.ensures c.args.scope.now.limit)

pub returns : goal.returns
returns c pieces lists is whole are =
    let size = lists_len c.args.scope.now.limit c.args.given.now lists are in
    let same : c.args.count ≡ length lists = omega (arith, size, c.if-count-given.false) in
    subst (λ w. IsWorth c.args.scope.now.limit c.served.result w) (sym (defined_served c.args.kind c.args.at c.args.count lists pieces same))
    (c.served.ensures c.args.scope.now.limit (filled lists pieces) (c.in_ok-pieces.ensures pieces lists is (λ some. whole (omega (arith, size, same))) are))
