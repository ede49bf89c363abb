use Rattle.std.proofs.Common.{◌≡◌, ◌-◌, length, arith}
use Rattle.explainer.specs.Making.{cells_of}
use Rattle.explainer.proofs.Putting.{puts_alike, too_many, puts_not}
use Rattle.explainer.proofs.replacing.replace.Goals as goal

pub returns-then-not-branch : goal.returns-then-not-branch
returns-then-not-branch g c =
    let room = c.args.limit - c.len.result - c.len-in-loop-item.result in
    let is : room ≡ c.args.limit - length c.args.tail.now - length (cells_of c.loop-item.front) = omega (arith, c.len.ensures.length, c.len-in-loop-item.ensures) in
    too_many c.args.texts.now c.args.items.now c.loop-item.item-index c.args.limit room _ (cells_of c.loop-item.front) c.args.tail.now c.loop-item-test.true c.loop-item.invariant.cells is
    (puts_not c.in_ok-put.field-0 room _ _ _ c.if-not-branch.true (puts_alike c.in_ok-put.field-0 room _ _ _ _ _ c.loop-item.invariant.same c.in_ok-put.ensures.puts))
