use Rattle.std.proofs.Common.{arith}
use Rattle.replacer.proofs.PutLengths.{length_of_zero, length_of_digit, length_of_word}
use Rattle.replacer.proofs.lengths.number_bases.Goals as goal

pub overflow_add-len : goal.overflow_add-len
overflow_add-len c = omega (arith, c.loop-left.invariant, length_of_word c.args.n (omega arith))

pub loop-left-preserved : goal.loop-left-preserved
loop-left-preserved c = omega (arith, c.loop-left.invariant, length_of_digit c.loop-left.left (omega arith))

pub returns : goal.returns
returns c = omega (arith, c.loop-left.invariant, length_of_zero c.loop-left.left (omega arith))
