use Rattle.std.proofs.Common.{◌≡◌, ◌<◌, ◌∙◌, [], ap, arith, flat_map, length, subst, sym}
use Rattle.std.proofs.lemmas.Bool.{eqb-true, eqb-false}
use Rattle.source_text.specs.Keeping.{IsHeld}
use Rattle.source_text.specs.Pieces.{filled_item}
use Rattle.source_text.proofs.UseLemmas.{filled_none, filled_some, held_whole, lists_len}
use Rattle.source_text.proofs.uses.in_place.Goals as goal

pub returns-then-is_empty : goal.returns-then-is_empty
returns-then-is_empty c pieces lists is whole are =
    let size = lists_len c.args.scope.now.limit c.args.given.now lists are in
    let none : length lists ≡ 0 = sym size ∙ eqb-true (length c.args.given.now) 0 (sym c.is_empty.ensures ∙ c.if-is_empty.true) in
    subst (λ p. IsHeld c.args.scope.now.limit c.in_ok-copy.copy p) (sym (filled_none lists pieces none))
    (c.in_ok-copy.ensures [] pieces (c.no_pieces.ensures c.args.scope.now.limit) is)

pub returns : goal.returns
returns c pieces lists is whole are =
    let size = lists_len c.args.scope.now.limit c.args.given.now lists are in
    let some : 0 < length c.args.given.now = omega (arith, eqb-false (length c.args.given.now) 0 (sym c.is_empty.ensures ∙ c.if-is_empty.false)) in
    let here = c.as_slice.ensures.value ∙ held_whole c.args.scope.now.limit c.args.held.now pieces is (whole some) in
    subst (λ p. IsHeld c.args.scope.now.limit c.in_ok-found.found p) (ap (flat_map (filled_item lists)) here ∙ sym (filled_some lists pieces (omega (arith, size))))
    (c.in_ok-found.ensures lists are)
