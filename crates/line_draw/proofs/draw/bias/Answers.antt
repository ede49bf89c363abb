use Rattle.std.proofs.Common.{arith}
use Rattle.std.proofs.lemmas.Bool.Decides.{nat_tests}
use Rattle.line_draw.proofs.Signs.{bias_northwest, bias_other, bias_southeast}
use Rattle.line_draw.proofs.draw.bias.Goals as goal

pub returns-then-to_northwest : goal.returns-then-to_northwest
returns-then-to_northwest c = grind (arith, nat_tests, bias_southeast c.args.start c.args.stop, bias_northwest c.args.start c.args.stop)

pub returns-else-to_northwest : goal.returns-else-to_northwest
returns-else-to_northwest c = grind (arith, nat_tests, bias_other c.args.start c.args.stop)
