use Rattle.std.proofs.Common.{arith, refl}
use Rattle.line_draw.proofs.Points.{line_from_walk, walk_empty}
use Rattle.line_draw.proofs.Signs.{bias_small, half_is, steps_from}
use Rattle.line_draw.proofs.draw.line.Goals as goal

pub overflow_sub-half : goal.overflow_sub-half
overflow_sub-half g c = omega (arith, c.bias.ensures, bias_small c.args.start c.args.stop, c.if-steps-gt0.true)

pub returns-then-steps-gt0-clause-line : goal.returns-then-steps-gt0-clause-line
returns-then-steps-gt0-clause-line g c =
    let is_steps = steps_from c.args.start c.args.stop c.max-steps.result _ _ c.max-steps.ensures c.abs_diff.ensures c.abs_diff-2.ensures in
    let half = half_is c.args.start c.args.stop c.max-steps.result c.bias.result _ is_steps c.bias.ensures (omega (arith, c.bias.ensures, bias_small c.args.start c.args.stop, c.if-steps-gt0.true)) refl in
    line_from_walk c.args.start c.args.stop c.max-steps.result _ is_steps (λ some. half) _ _ _ _ _ c.set.ensures.was_square c.walk.ensures.square c.requires.stop.0 c.requires.stop.1 c.set.ensures.value c.walk.ensures.walked

pub returns-else-steps-gt0-clause-line : goal.returns-else-steps-gt0-clause-line
returns-else-steps-gt0-clause-line g c =
    let is_steps = steps_from c.args.start c.args.stop c.max-steps.result _ _ c.max-steps.ensures c.abs_diff.ensures c.abs_diff-2.ensures in
    let none = c.if-steps-gt0.false in
    line_from_walk c.args.start c.args.stop c.max-steps.result 0 is_steps (λ some. absurd (omega arith)) _ _ _ _ _ c.set.ensures.was_square c.set.ensures.square c.requires.stop.0 c.requires.stop.1 c.set.ensures.value
    (walk_empty _ _ c.args.start c.args.stop c.max-steps.result 0 _ none)
